use Rattle.hm_lexer.proofs.Building.{parts_build}
use Rattle.hm_lexer.proofs.laws.parts_build.Goals as goal

pub returns : goal.returns
returns c = parts_build
