-- Steps before a layer of one state, and steps after it.
use Rattle.std.specs.Prelude.{◌≡◌, ℕ, List, [], ◌∷◌, ◌++◌, length, map, None, Some, if◌then◌else◌, slice_index_or}
use Rattle.hm_base.specs.declared.plain.Format.{Format}
use Rattle.hm_edges.specs.declared.pieces.Piece.{Piece}
use Rattle.hm_graph_laws.specs.Prices.{Row}
use Rattle.hm_graph_laws.specs.Units.{Unit}
use Rattle.hm_graph_laws.specs.Ways.{over}
use Rattle.hm_graph.specs.Prices.{first_row, row_over, rows_of, written_rows, zeros}
use Rattle.hm_graph.specs.Steps.{Step, leaves_out}
use Rattle.hm_graph.specs.Ways.{way_from}

-- each price is `len` more
abbrev pub raised : ℕ → Row → Row
raised len row = map (over len) row

-- the rows that a certificate of a format writes of the layers before these steps, where none is the first one
abbrev pub kept_rows : Format → ℕ → List Step → List Row
kept_rows format last [] = []
kept_rows format last (step ∷ steps) = if leaves_out format step then kept_rows format last steps else row_over (first_row (rows_of last steps)) step ∷ kept_rows format last steps

-- a layer of one state, from which there is a way, and its price
abbrev pub IsOnePrice : ℕ → List Step → ℕ → Type 0
IsOnePrice last steps price = first_row (rows_of last steps) ≡ Some price ∷ []

-- Where one state is between steps, the prices before the first of them are those up to that state, raised by its own.
abbrev pub PricesAreJoined : Type 0
PricesAreJoined = (last : ℕ) (front more : List Step) (price : ℕ) → IsOnePrice last more price → first_row (rows_of last (front ++ more)) ≡ raised price (first_row (rows_of 1 front))

-- and the rows that are written are those up to that state, raised so, and those after it
abbrev pub KeptRowsAreJoined : Type 0
KeptRowsAreJoined = (format : Format) (last : ℕ) (front more : List Step) (price : ℕ) → IsOnePrice last more price → kept_rows format last (front ++ more) ≡ map (raised price) (kept_rows format 1 front) ++ kept_rows format last more

-- and the first way is the one up to that state, and the one after it
abbrev pub WaysAreJoined : Type 0
WaysAreJoined = (bytes : Unit → Piece → List ℕ) (last : ℕ) (us units : List Unit) (front more : List Step) (price place own : ℕ) → IsOnePrice last more price → length us ≡ length front
    → slice_index_or (first_row (rows_of 1 front)) place None ≡ Some own → way_from bytes last (us ++ units) (front ++ more) place ≡ way_from bytes 1 us front place ++ way_from bytes last units more 0

-- the rows that are written of all layers: the first one, those that are kept of the next ones, and the last one
abbrev pub WrittenAreKept : Type 0
WrittenAreKept = (format : Format) (last : ℕ) (step : Step) (steps : List Step)
    → written_rows format 0 (step ∷ steps) (rows_of last (step ∷ steps)) ≡ row_over (first_row (rows_of last steps)) step ∷ (kept_rows format last steps ++ zeros last ∷ [])
