use Rattle.hm_lexer.proofs.TextEnds.{rcdata_small}
use Rattle.hm_lexer.proofs.lexer.Lexer.end_of.Goals as goal

pub raw_text_end-requires-clause-name : goal.raw_text_end-requires-clause-name
raw_text_end-requires-clause-name c = rw c.as_str.ensures (rcdata_small c.args.name)
