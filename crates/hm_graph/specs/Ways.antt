-- Ways over steps (paths through the layered graph), and the first one: at each state the first hop over which the
-- least price comes.
use Rattle.std.specs.Prelude.{◌≡◌, ℕ, suc, List, [], ◌∷◌, ◌++◌, map, Option, Some, None, if◌then◌else◌, slice_get, slice_index_or}
use Rattle.hm_graph_laws.specs.Prices.{Row}
use Rattle.hm_graph_laws.specs.Ways.{same_price}
use Rattle.hm_refs.specs.Tables.{IsIn}
use Rattle.hm_graph_laws.specs.Units.{Unit}
use Rattle.hm_edges.specs.declared.pieces.Piece.{Piece}
use Rattle.hm_graph.specs.Prices.{price_over, best_price, first_row, rows_of}
use Rattle.hm_graph.specs.Steps.{Step, is_forced}
use Rattle.hm_graph.specs.declared.hops.Hop.{Hop}

-- a way over these steps from a place to the end, with the bytes that it writes, by what a piece writes of a unit
abbrev pub WayOver : (Unit → Piece → List ℕ) → List Unit → List Step → ℕ → List ℕ → Type 0
WayOver bytes [] [] place b = b ≡ []
WayOver bytes [] (step ∷ steps) place b = ⊥
WayOver bytes (unit ∷ units) [] place b = ⊥
WayOver bytes (unit ∷ units) (step ∷ steps) place b =
    (h : Hop) × IsIn h (slice_index_or step place []) × ((rest : List ℕ) × (b ≡ bytes unit h.piece ++ rest) × WayOver bytes units steps h.to rest)

-- ---- The first way

-- the place of the first hop over which a price comes; after the last where there is none
abbrev pub place_over : Row → Option ℕ → List Hop → ℕ
place_over after price [] = 0
place_over after price (h ∷ hops) = if same_price (price_over after h) price then 0 else suc (place_over after price hops)

-- the place of the first hop over which the least price comes
abbrev pub choice : Row → List Hop → ℕ
choice after hops = place_over after (best_price after hops) hops

-- the choices before a step, where there is something to choose
abbrev pub step_choices : Row → Step → List ℕ
step_choices after step = if is_forced step then [] else map (choice after) step

-- the choices of all layers from one on, those of the last layer first
abbrev pub choices_of : ℕ → List Step → List ℕ
choices_of last [] = []
choices_of last (step ∷ steps) = choices_of last steps ++ step_choices (first_row (rows_of last steps)) step

-- the hop that the first way takes from a place, by the next layer's prices
abbrev pub hop_taken : Row → Step → ℕ → Option Hop
hop_taken after step place = slice_get (slice_index_or step place []) (choice after (slice_index_or step place []))

abbrev pub along : (Piece → List ℕ) → (ℕ → List ℕ) → Option Hop → List ℕ
along bytes more None = []
along bytes more (Some h) = bytes h.piece ++ more h.to

-- the bytes of the first way from a place, by what a piece writes of a unit
abbrev pub way_from : (Unit → Piece → List ℕ) → ℕ → List Unit → List Step → ℕ → List ℕ
way_from bytes last units [] place = []
way_from bytes last [] (step ∷ steps) place = []
way_from bytes last (unit ∷ units) (step ∷ steps) place = along (bytes unit) (way_from bytes last units steps) (hop_taken (first_row (rows_of last steps)) step place)
