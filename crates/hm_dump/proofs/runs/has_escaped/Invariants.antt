use Rattle.std.proofs.Common.{◌≡◌, cond, take}
use Rattle.hm_base.specs.Bytes.{some_passes}
use Rattle.hm_dump.specs.Runs.{is_escaped}
use Rattle.hm_dump.proofs.runs.has_escaped.Given as goal

abbrev pub invariant-loop-byte : goal.invariant-loop-byte
invariant-loop-byte l = l.found ≡ cond (some_passes is_escaped (take l.byte-index l.bytes)) 1 0
