-- The first way, as far as it is written.
use Rattle.std.specs.Prelude.{◌≡◌, ℕ, ◌+◌, List, [], ◌++◌, drop, length, Option, Some, None}
use Rattle.hm_edges.specs.Pieces.{piece_bytes}
use Rattle.hm_graph_laws.specs.Prices.{Row}
use Rattle.hm_graph.specs.Graphs.{GraphView, IsPlace}
use Rattle.hm_graph.specs.Prices.{first_row, rows_of}
use Rattle.hm_graph.specs.Ways.{choices_of, way_from}
use Rattle.hm_graph_laws.specs.Units.{TextKind, Unit, character_units}
use Rattle.hm_shortest.specs.declared.paths.WrittenWay.{WrittenWay}

-- the prices after step k
abbrev pub row_after : GraphView → ℕ → Row
row_after g k = first_row (rows_of g.last (drop (k + 1) g.steps))

-- what is left of a way from a place, nothing where it has ended
abbrev pub onward : (ℕ → List ℕ) → Option ℕ → List ℕ
onward more None = []
onward more (Some place) = more place

-- what is left of the first way at step k, of these units
abbrev pub way_on : GraphView → List Unit → ℕ → Option ℕ → List ℕ
way_on g units k place = onward (way_from (piece_bytes g.source.table.entries) g.last units (drop k g.steps)) place

-- the way stands at a layer, and the choices that are left are those of the steps from there on
pub record IsOnWay (g : GraphView) (way : WrittenWay) : Type 0 where
  pub place : IsPlace g way.at
  pub choices : way.choices.now ≡ choices_of g.last (drop way.at.layer g.steps)

-- what was written, and what is left of the way over these units
abbrev pub whole_text : GraphView → List Unit → WrittenWay → List ℕ
whole_text g units way = way.out.items ++ way_on g units way.at.layer way.place

-- The way goes on from the units `from` up to those in `left`, and its whole text stays the same.
pub record Goes (g : GraphView) (from left : List Unit) (old new : WrittenWay) : Type 0 where
  pub count : new.at.layer + length left ≡ old.at.layer + length from
  pub on : IsOnWay g new
  pub text : (units : List Unit) → whole_text g (from ++ units) old ≡ whole_text g (left ++ units) new

-- from these characters on up to those that are left of them
abbrev pub GoesOver : GraphView → List ℕ → List ℕ → WrittenWay → WrittenWay → Type 0
GoesOver g cs left old new = (kind : TextKind) → Goes g (character_units kind cs) (character_units kind left) old new
