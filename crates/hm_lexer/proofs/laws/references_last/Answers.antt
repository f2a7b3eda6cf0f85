use Rattle.hm_lexer.proofs.References.{references_last}
use Rattle.hm_lexer.proofs.laws.references_last.Goals as goal

pub returns : goal.returns
returns c = references_last
