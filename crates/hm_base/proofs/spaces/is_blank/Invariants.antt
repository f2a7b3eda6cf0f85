use Rattle.std.proofs.Common.{◌≡◌, drop}
use Rattle.hm_base.specs.Forms.{is_blank}
use Rattle.hm_base.proofs.spaces.is_blank.Given as goal

abbrev pub invariant-loop-byte : goal.invariant-loop-byte
invariant-loop-byte l = is_blank l.bytes ≡ is_blank (drop l.byte-index l.bytes)
