use Rattle.std.proofs.Common.{chars, length}
use denote.Text.{Utf8}
use denote.Shadow.{shadow}
use Rattle.hm_edges.specs.Units.{kind_of}
use Rattle.hm_graph.specs.Going.{GoesOver}
use Rattle.hm_graph.proofs.along.add_characters.Given as goal

abbrev pub invariant-loop-rest : goal.invariant-loop-rest
invariant-loop-rest g l = shadow (Utf8 l.rest) × GoesOver g.V.Visitor.goes_on (kind_of l.kind) (chars l.text) (chars l.rest) l.initial.along l.along

abbrev pub decreases-loop-rest : goal.decreases-loop-rest
decreases-loop-rest g l = length l.rest
