-- Between the ways (paths) through the layered graph and the spellings of a tree, over its events.
use Rattle.std.specs.Prelude.{◌≡◌, ℕ, ◌≤◌, Bool, true, false, ◌==◌, List, [], length, Some}
use Rattle.hm_base.specs.Walks.{Event}
use Rattle.hm_base.specs.declared.plain.SpellRules.{SpellRules}
use Rattle.hm_elements.specs.Settled.{Settled}
use Rattle.hm_graph_laws.specs.ExchangeLaws.{sparing_plain}
use Rattle.hm_graph_laws.specs.Layers.{first_layer}
use Rattle.hm_graph_laws.specs.Prices.{Row, Feasible, first_price, least_prices}
use Rattle.hm_graph_laws.specs.UnitEdges.{edges_of}
use Rattle.hm_graph_laws.specs.Ways.{Way, first_way}
use Rattle.hm_refs.specs.Names.{Entry}
use Rattle.hm_refs.specs.Tables.{IsTable}
use Rattle.hm_spelling_spec.specs.Characters.{Spot, may_stand}
use Rattle.hm_spelling_spec.specs.Spellings.{Spells, SpellsFrom, Shortest, other}
use Rattle.hm_spelling_spec.specs.Tags.{Spelling}
use Rattle.hm_graph_laws.specs.States.{first_state}
use Rattle.hm_graph_laws.specs.Units.{units_of}

-- the bytes of each way are a spelling
abbrev pub WaysSpellTrees : Type 0
WaysSpellTrees = (g : Spelling) → IsTable g.table → (w : List Event) → Settled w → (b : List ℕ) → Way (edges_of g) (units_of g.rules w) first_state b → SpellsFrom g other [] w b

-- a way with no more bytes than b
pub record HasWay (g : Spelling) (w : List Event) (b : List ℕ) : Type 0 where
  pub bytes : List ℕ
  pub way : Way (edges_of g) (units_of g.rules w) first_state bytes
  pub short : length bytes ≤ length b

-- each spelling has a way with no more bytes
abbrev pub SpellingsHaveWays : Type 0
SpellingsHaveWays = (g : Spelling) → IsTable g.table → (w : List Event) → Settled w → (b : List ℕ) → SpellsFrom g other [] w b → HasWay g w b

-- what stands as itself in every text and value, whatever follows
pub record AlwaysStands (c : ℕ) : Type 0 where
  pub stands : (ascii : Bool) (spot : Spot) → may_stand ascii spot c ≡ true
  pub no_amp : (c == 38) ≡ false
  pub no_lt : (c == 60) ≡ false

-- each character at which no reference may begin can stand as itself
abbrev pub SparesOnlyPlain : Spelling → Type 0
SparesOnlyPlain g = (c : ℕ) → g.refers c ≡ false → AlwaysStands c

-- a tree has a way
abbrev pub TreesHaveWays : Type 0
TreesHaveWays = (g : Spelling) → SparesOnlyPlain g → (w : List Event) → (b : List ℕ) × Way (edges_of g) (units_of g.rules w) first_state b

-- a settled tree has a spelling
abbrev pub TreesHaveSpellings : Type 0
TreesHaveSpellings = (t : List Entry) → IsTable t → (r : SpellRules) (w : List Event) → Settled w → (b : List ℕ) × Spells t r w b

-- ---- At the edges of a tree's own graph

-- the bytes of each way are a spelling
abbrev pub GraphWaysSpell : Type 0
GraphWaysSpell = (t : List Entry) → IsTable t → (r : SpellRules) (w : List Event) → Settled w → (b : List ℕ) → Way (edges_of (sparing_plain t r)) (units_of r w) first_state b → Spells t r w b

-- each spelling has a way with no more bytes
abbrev pub SpellingsHaveGraphWays : Type 0
SpellingsHaveGraphWays = (t : List Entry) → IsTable t → (r : SpellRules) (w : List Event) → Settled w → (b : List ℕ) → Spells t r w b → HasWay (sparing_plain t r) w b

-- each tree has a way
abbrev pub TreesHaveGraphWays : Type 0
TreesHaveGraphWays = (t : List Entry) → IsTable t → (r : SpellRules) (w : List Event) → (b : List ℕ) × Way (edges_of (sparing_plain t r)) (units_of r w) first_state b

-- ---- What prices show

-- prices that keep the rules show that no spelling has fewer bytes than the first of them
abbrev pub FeasiblePricesShow : Type 0
FeasiblePricesShow =
    (t : List Entry) → IsTable t → (r : SpellRules) (w : List Event) → Settled w → (prices : List Row) (n : ℕ)
    → Feasible (edges_of (sparing_plain t r)) (units_of r w) prices → first_price prices ≡ Some n → Shortest t r w n

-- the first way is a spelling, as long as the first of the least prices, and no spelling has fewer bytes
pub record IsBest (t : List Entry) (r : SpellRules) (w : List Event) (b : List ℕ) : Type 0 where
  pub spells : Spells t r w b
  pub price : first_price (least_prices (edges_of (sparing_plain t r)) (units_of r w) first_layer) ≡ Some (length b)
  pub shortest : Shortest t r w (length b)

abbrev pub FirstWaysAreBest : Type 0
FirstWaysAreBest = (t : List Entry) → IsTable t → (r : SpellRules) (w : List Event) → Settled w → IsBest t r w (first_way (edges_of (sparing_plain t r)) (units_of r w) first_state)
