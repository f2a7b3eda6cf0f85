-- What is true of the graph without the edges that are dominated.
use Rattle.std.specs.Prelude.{◌≡◌, ◌≤◌, ◌+◌, ℕ, true, List, [], ◌∷◌, length, Some}
use Rattle.hm_base.specs.Walks.{Event}
use Rattle.hm_base.specs.declared.plain.SpellRules.{SpellRules}
use Rattle.hm_elements.specs.Settled.{Settled}
use Rattle.hm_graph_laws.specs.Edges.{Edge, edge_length}
use Rattle.hm_graph_laws.specs.Prices.{Row, Feasible, first_price}
use Rattle.hm_graph_laws.specs.UnitEdges.{edges_of}
use Rattle.hm_graph_laws.specs.Ways.{Edges, Way, least, first_way}
use Rattle.hm_optimality_laws.specs.Forms.{value_and}
use Rattle.hm_optimality_laws.specs.Dominated.{Dominance, dominance, may_forget, forgotten, sparse}
use Rattle.hm_refs.specs.Names.{Entry}
use Rattle.hm_refs.specs.Tables.{IsTable}
use Rattle.hm_spelling_spec.specs.Spellings.{Shortest}
use Rattle.hm_spelling_spec.specs.Tags.{Spelling}
use Rattle.hm_graph_laws.specs.States.{State, first_state}
use Rattle.hm_graph_laws.specs.Units.{Unit, attribute_name, units_of}
use Rattle.hm_graph_laws.specs.ExchangeLaws.{sparing_plain}

-- a way (path through the layered graph) with no more bytes than b
pub record HasWayOver (es : Edges) (units : List Unit) (s : State) (b : List ℕ) : Type 0 where
  pub bytes : List ℕ
  pub way : Way es units s bytes
  pub short : length bytes ≤ length b

-- for each way from a state in which what is pending may be forgotten there is one from the same place with nothing pending
abbrev pub ForgetsFreely : Edges → Type 0
ForgetsFreely es = (units : List Unit) (s : State) (b : List ℕ) → may_forget s ≡ true → Way es units s b → HasWayOver es units (forgotten s) b

-- what may be written with something pending may be written with nothing pending, and leaves no more pending
abbrev pub ForgettingIsNoLoss : Type 0
ForgettingIsNoLoss = (g : Spelling) → ForgetsFreely (edges_of g)

-- ---- Units in which each value follows its attribute's name

abbrev pub IsFollowed : Unit → List Unit → Type 0
IsFollowed (attribute_name n v) units = (rest : List Unit) × (units ≡ value_and v rest)
IsFollowed unit units = Prim.Unit {0}

abbrev pub HaveValues : List Unit → Type 0
HaveValues [] = Prim.Unit {0}
HaveValues (unit ∷ units) = IsFollowed unit units × HaveValues units

-- so are those of every tree
abbrev pub TreesHaveValues : Type 0
TreesHaveValues = (r : SpellRules) (w : List Event) → HaveValues (units_of r w)

-- ---- What is dominated isn't needed

-- a way from the end of f over these units that is, with f, at least `fewer` bytes shorter than one with the bytes b from the end
-- of e is with e
pub record HasWayInstead (es : Edges) (units : List Unit) (fewer : ℕ) (e f : Edge) (b : List ℕ) : Type 0 where
  pub bytes : List ℕ
  pub way : Way es units f.to bytes
  pub short : fewer + (edge_length f + length bytes) ≤ edge_length e + length b

-- for each way from the end of e there is such a one
abbrev pub Replaces : Edges → List Unit → ℕ → Edge → Edge → Type 0
Replaces es units fewer e f = (b : List ℕ) → Way es units e.to b → HasWayInstead es units fewer e f b

-- Of two edges of a unit the one that dominates replaces the other: with no more bytes where it stands before it, with fewer where
-- it stands after it.
abbrev pub LosesNothing : Dominance → Edges → Type 0
LosesNothing d es =
    (unit : Unit) (units : List Unit) → IsFollowed unit units → (e f : Edge) → (d.in_front unit e f ≡ true → Replaces es units 0 e f) × (d.after unit e f ≡ true → Replaces es units 1 e f)

-- what a table's dominance leaves out
abbrev pub DominanceLosesNothing : Type 0
DominanceLosesNothing = (g : Spelling) → IsTable g.table → LosesNothing (dominance g.table) (edges_of g)

-- ---- Without the edges that are dominated

abbrev pub SameLeast : Dominance → Edges → Type 0
SameLeast d es = (units : List Unit) → HaveValues units → (s : State) → least (sparse d es) units s ≡ least es units s

abbrev pub SameFirstWay : Dominance → Edges → Type 0
SameFirstWay d es = (units : List Unit) → HaveValues units → (s : State) (n : ℕ) → least es units s ≡ Some n → first_way (sparse d es) units s ≡ first_way es units s

-- prices that keep the rules at the edges that are left bound every way, also over edges that are dominated
abbrev pub PricesBound : Dominance → Edges → Type 0
PricesBound d es =
    (units : List Unit) → HaveValues units → (prices : List Row) (n : ℕ) (b : List ℕ) → Feasible (sparse d es) units prices → first_price prices ≡ Some n → Way es units first_state b → n ≤ length b

-- over any edges, with any tests that lose nothing
abbrev pub DominatedEdgesAreNeedless : Type 0
DominatedEdgesAreNeedless = (d : Dominance) (es : Edges) → LosesNothing d es → SameLeast d es × (SameFirstWay d es × PricesBound d es)

-- over the edges of the graph of spellings
abbrev pub SparseLeastIsLeast : Type 0
SparseLeastIsLeast = (g : Spelling) → IsTable g.table → SameLeast (dominance g.table) (edges_of g)

abbrev pub SparseFirstWayIsFirst : Type 0
SparseFirstWayIsFirst = (g : Spelling) → IsTable g.table → SameFirstWay (dominance g.table) (edges_of g)

abbrev pub SparsePricesBound : Type 0
SparsePricesBound = (g : Spelling) → IsTable g.table → PricesBound (dominance g.table) (edges_of g)

-- Over a settled tree, without references at plain characters, prices show a bound where they keep the rules at the edges
-- that are left: no spelling has fewer bytes than the first price.
abbrev pub SparsePricesShow : Type 0
SparsePricesShow =
    (t : List Entry) → IsTable t → (r : SpellRules) (w : List Event) → Settled w → (prices : List Row) (n : ℕ)
    → Feasible (sparse (dominance t) (edges_of (sparing_plain t r))) (units_of r w) prices → first_price prices ≡ Some n → Shortest t r w n
