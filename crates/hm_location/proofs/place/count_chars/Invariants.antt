use Rattle.std.proofs.Common.{◌≡◌, ◌+◌, ◌≤◌, drop}
use Rattle.std.specs.Fmt.{char_count}
use Rattle.hm_location.proofs.place.count_chars.Given as goal

abbrev pub invariant-loop-byte : goal.invariant-loop-byte
invariant-loop-byte l = (l.count ≤ l.byte-index) × (l.count + char_count (drop l.byte-index l.bytes) ≡ char_count l.bytes)
