use Rattle.hm_lexer.proofs.TextEnds.{raw_small}
use Rattle.hm_lexer.proofs.lexer.Lexer.scan.Goals as goal

pub scan_raw_text-requires-clause-name : goal.scan_raw_text-requires-clause-name
scan_raw_text-requires-clause-name c = rw c.as_str.ensures (raw_small c.in-Raw.name)
