use Rattle.hm_cert.specs.Words.{IsUpTo}
use Rattle.hm_cert.proofs.lines.read_number.Given as goal

abbrev pub invariant-loop-byte : goal.invariant-loop-byte
invariant-loop-byte l = IsUpTo l.word l.byte-index l.number
