-- Prices (potentials: the cost to go) over steps: the least ones, those that are written, all that these stand for, and
-- those that show a bound.
use Rattle.std.specs.Prelude.{◌≡◌, ℕ, suc, Bool, not, ◌&&◌, ◌==◌, List, [], ◌∷◌, length, map, Option, Some, None, if◌then◌else◌, slice_index_or}
use Rattle.std.proofs.Math.ListN.{replicate}
use Rattle.hm_base.specs.declared.plain.Format.{Format}
use Rattle.hm_graph_laws.specs.Prices.{Row, KeepsEdge, with_row}
use Rattle.hm_graph_laws.specs.Ways.{lesser, over}
use Rattle.hm_graph.specs.Steps.{Step, leaves_out}
use Rattle.hm_graph.specs.declared.hops.Hop.{Hop}

-- ---- Least prices

-- the price over a hop, by the prices of the next layer
abbrev pub price_over : Row → Hop → Option ℕ
price_over after h = over h.len (slice_index_or after h.to None)

-- the least price over these hops
abbrev pub best_price : Row → List Hop → Option ℕ
best_price after [] = None
best_price after (h ∷ hops) = lesser (price_over after h) (best_price after hops)

-- the least prices before a step
abbrev pub row_over : Row → Step → Row
row_over after step = map (best_price after) step

abbrev pub first_row : List Row → Row
first_row [] = []
first_row (row ∷ rows) = row

-- the prices of the last layer, which has `last` states
abbrev pub zeros : ℕ → Row
zeros last = replicate last (Some 0)

-- the least prices of all layers from one on
abbrev pub rows_of : ℕ → List Step → List Row
rows_of last [] = zeros last ∷ []
rows_of last (step ∷ steps) = row_over (first_row (rows_of last steps)) step ∷ rows_of last steps

-- ---- Written prices

-- Whether a layer is left out of a certificate of this format, by the step after it; k is the number of the layer, and
-- the first one never is.
abbrev pub is_left_out : Format → ℕ → Step → Bool
is_left_out format k step = not (k == 0) && leaves_out format step

-- the rows that are written of those of all layers from one on
abbrev pub written_rows : Format → ℕ → List Step → List Row → List Row
written_rows format k steps [] = []
written_rows format k [] (row ∷ rows) = row ∷ []
written_rows format k (step ∷ steps) (row ∷ rows) =
    if is_left_out format k step then written_rows format (suc k) steps rows
    else row ∷ written_rows format (suc k) steps rows

abbrev pub followed_by : Step → Option (List Row) → Option (List Row)
followed_by step None = None
followed_by step (Some []) = None
followed_by step (Some (next ∷ rows)) = Some (row_over next step ∷ next ∷ rows)

-- the rows of all layers from one on, by those that are written; none where these are too few or too many or of another width
abbrev pub full_rows : Format → ℕ → ℕ → List Step → List Row → Option (List Row)
full_rows format k last [] [] = None
full_rows format k last [] (row ∷ []) = if length row == last then Some (row ∷ []) else None
full_rows format k last [] (row ∷ more ∷ rows) = None
full_rows format k last (step ∷ steps) [] = None
full_rows format k last (step ∷ steps) (row ∷ rows) =
    if is_left_out format k step then followed_by step (full_rows format (suc k) last steps (row ∷ rows))
    else if length row == length step then with_row row (full_rows format (suc k) last steps rows)
    else None

-- ---- Prices that show a bound by themselves

abbrev pub KeepsHops : Option ℕ → Row → List Hop → Type 0
KeepsHops price after [] = Prim.Unit {0}
KeepsHops price after (h ∷ hops) = KeepsEdge price h.len (slice_index_or after h.to None) × KeepsHops price after hops

-- a price for each state, and each keeps the rule at its hops
abbrev pub KeepsStep : Row → Step → Row → Type 0
KeepsStep after [] [] = Prim.Unit {0}
KeepsStep after [] (price ∷ row) = ⊥
KeepsStep after (hops ∷ step) [] = ⊥
KeepsStep after (hops ∷ step) (price ∷ row) = KeepsHops price after hops × KeepsStep after step row

abbrev pub KeepsRows : ℕ → List Step → List Row → Type 0
KeepsRows last steps [] = ⊥
KeepsRows last [] (row ∷ []) = row ≡ zeros last
KeepsRows last [] (row ∷ next ∷ rows) = ⊥
KeepsRows last (step ∷ steps) (row ∷ []) = ⊥
KeepsRows last (step ∷ steps) (row ∷ next ∷ rows) = KeepsStep next step row × KeepsRows last steps (next ∷ rows)
