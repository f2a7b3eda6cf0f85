use Rattle.std.proofs.Common.{false}
use Rattle.memchr.specs.Find.{Nowhere, Passes}
use Rattle.hm_scan.specs.TextPlaces.{is_sign}
use Rattle.hm_lexer.proofs.parts.first_sign.Given as goal

-- no sign so far
abbrev pub invariant-loop-i : goal.invariant-loop-i
invariant-loop-i l = Nowhere (Passes (is_sign false) l.bytes) 0 l.i
