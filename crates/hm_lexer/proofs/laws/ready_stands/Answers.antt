use Rattle.hm_lexer.proofs.Standing.{ready_stands}
use Rattle.hm_lexer.proofs.laws.ready_stands.Goals as goal

pub returns : goal.returns
returns c = ready_stands
