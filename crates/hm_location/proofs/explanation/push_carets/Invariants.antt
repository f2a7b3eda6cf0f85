use Rattle.std.proofs.Common.{◌≡◌, ◌++◌, drop, filter, map}
use Rattle.std.specs.Fmt.{is_char_start}
use Rattle.hm_location.specs.Explanations.{caret_byte}
use Rattle.hm_location.proofs.explanation.push_carets.Given as goal

abbrev pub invariant-loop-byte : goal.invariant-loop-byte
invariant-loop-byte l = l.lines.items ++ map caret_byte (filter is_char_start (drop l.byte-index l.front)) ≡ l.initial.lines.items ++ map caret_byte (filter is_char_start l.front)
