use Rattle.std.proofs.Common.{◌≡◌, ◌++◌, drop, map}
use Rattle.hm_location.specs.Explanations.{shown_byte}
use Rattle.hm_location.proofs.explanation.push_shown.Given as goal

abbrev pub invariant-loop-byte : goal.invariant-loop-byte
invariant-loop-byte l = l.lines.items ++ map shown_byte (drop l.byte-index l.bytes) ≡ l.initial.lines.items ++ map shown_byte l.bytes
