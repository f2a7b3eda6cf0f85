-- Steps that are gone over at once, up to a layer of one state or to the last one.
use Rattle.std.specs.Prelude.{◌≡◌, ℕ, ◌+◌, ◌-◌, ◌≤◌, ◌^◌, List, [], ◌∷◌, ◌++◌, drop, length, map, slice_index_or}
use Rattle.std.specs.Option.{option_map}
use Rattle.hm_base.specs.declared.plain.Format.TheVariants.{Sparse}
use Rattle.hm_cert.specs.Rows.{AreBelow}
use Rattle.hm_edges.specs.Pieces.{piece_bytes}
use Rattle.hm_graph.specs.Joined.{IsOnePrice, kept_rows}
use Rattle.hm_graph.specs.Prices.{first_row, rows_of}
use Rattle.hm_graph.specs.Steps.{Step}
use Rattle.hm_graph.specs.Ways.{way_from}
use Rattle.hm_graph_laws.specs.Prices.{Row}
use Rattle.hm_graph_laws.specs.Units.{fixed}
use Rattle.hm_refs.specs.Names.{Entry}

-- a step, and what its unit has of its own
pub record KeptView : Type 0 where
  pub step : Step
  pub own : List ℕ

abbrev pub steps_in : List KeptView → List Step
steps_in kept = map (λ k. k.step) kept

abbrev pub owns_in : List KeptView → List (List ℕ)
owns_in kept = map (λ k. k.own) kept

-- the first way over steps whose units have these bytes of their own: all that a piece writes of a unit is by those
abbrev pub own_way : List Entry → ℕ → List (List ℕ) → List Step → ℕ → List ℕ
own_way t last owns steps place = way_from (piece_bytes t) last (map fixed owns) steps place

-- how much less than `top` each price is
abbrev pub placed : ℕ → Row → Row
placed top row = map (option_map (λ price. top - price)) row

-- the prices of a layer are kept by how much less they are than all bytes so far and this many
abbrev pub base : ℕ
base = 2 ^ 62

-- how far a text is written: its bytes, how many they are by the prices of their steps, and the rows of its certificate, kept so
pub record Place : Type 0 where
  pub total : ℕ
  pub out : List ℕ
  pub rows : List Row

-- the prices of the layers of these steps from layer k on, those of the last one first
pub record AreFound (last : ℕ) (steps : List Step) (k : ℕ) (found : List Row) : Type 0 where
  pub within : k ≤ length steps
  pub count : length found + k ≡ length steps + 1
  pub at : (j : ℕ) → k ≤ j → j ≤ length steps → slice_index_or found (length steps - j) [] ≡ first_row (rows_of last (drop j steps))

-- no price in these rows is as great as that
abbrev pub AreUpTo : ℕ → List Row → Type 0
AreUpTo bound rows = (k : ℕ) → AreBelow bound (slice_index_or rows k [])

-- the first way over these steps up to one of `last` states is written
pub record IsWritten (t : List Entry) (last : ℕ) (owns : List (List ℕ)) (steps : List Step) (from to : Place) : Type 0 where
  pub price : ℕ
  pub one : IsOnePrice last steps price
  pub total : to.total ≡ from.total + price
  pub out : to.out ≡ from.out ++ own_way t last owns steps 0
  pub rows : to.rows ≡ from.rows ++ map (placed (base + to.total)) (kept_rows Sparse last steps)
