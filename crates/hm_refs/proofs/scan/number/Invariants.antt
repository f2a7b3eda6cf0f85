use Rattle.std.proofs.Common.{take}
use Rattle.hm_refs.proofs.Digits.{IsNumber}
use Rattle.hm_refs.proofs.scan.number.Given as goal

abbrev pub invariant-loop-byte : goal.invariant-loop-byte
invariant-loop-byte l = IsNumber l.base l.number (take l.byte-index l.digits)
