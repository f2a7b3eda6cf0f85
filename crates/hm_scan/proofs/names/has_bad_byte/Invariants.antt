use Rattle.std.proofs.Common.{◌≡◌, drop}
use Rattle.hm_base.specs.Bytes.{some_passes}
use Rattle.hm_scan.specs.Reading.{is_bad_byte}
use Rattle.hm_scan.proofs.names.has_bad_byte.Given as goal

abbrev pub invariant-loop-byte : goal.invariant-loop-byte
invariant-loop-byte l = some_passes is_bad_byte l.name ≡ some_passes is_bad_byte (drop l.byte-index l.name)
