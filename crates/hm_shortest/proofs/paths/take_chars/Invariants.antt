use Rattle.std.proofs.Common.{chars, length}
use denote.Text.{Utf8}
use denote.Shadow.{shadow}
use Rattle.hm_shortest.specs.Paths.{GoesOver}
use Rattle.hm_shortest.proofs.paths.take_chars.Given as goal

abbrev pub invariant-loop-rest : goal.invariant-loop-rest
invariant-loop-rest l = shadow (Utf8 l.rest) × GoesOver l.graph (chars l.text) (chars l.rest) l.initial.way l.way

abbrev pub decreases-loop-rest : goal.decreases-loop-rest
decreases-loop-rest l = length l.rest
