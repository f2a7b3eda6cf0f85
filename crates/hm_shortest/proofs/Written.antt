-- What is written of a settled tree is a certificate that can be read: each row has a price, and none is too great.
use Rattle.std.proofs.Common.{◌≡◌, ◌∙◌, ℕ, zero, suc, ◌<◌, ◌^◌, Bool, true, false, cond, List, [], ◌∷◌, length, Option, Some, None, refl, ap, subst, arith}
use Rattle.std.specs.Prelude.{slice_index_or}
use Rattle.hm_cert.specs.Certificate.{AreRows, ArePrices}
use Rattle.hm_base.specs.declared.plain.Format.{Format}
use Rattle.hm_graph_laws.specs.ExchangeLaws.{sparing_plain}
use Rattle.hm_edges.specs.Pieces.{piece_bytes}
use Rattle.hm_elements.specs.Settled.{Settled}
use Rattle.hm_graph_laws.specs.Layers.{first_layer}
use Rattle.hm_graph_laws.specs.Prices.{Row, first_price, least_prices}
use Rattle.hm_graph_laws.specs.Ways.{lesser, over}
use Rattle.hm_graph.specs.Graphs.{AreLow, GraphView, IsGraph, source_edges}
use Rattle.hm_shortest.proofs.FromLast.{prices_below}
use Rattle.hm_cert.specs.Rows.{AreBelow}
use Rattle.hm_refs.specs.Tables.{IsTable}
use Rattle.hm_graph.proofs.Rows.{rows_least}
use Rattle.hm_graph.proofs.Written.{written_agrees}
use Rattle.hm_graph.specs.Prices.{best_price, first_row, is_left_out, row_over, rows_of, written_rows, zeros}
use Rattle.hm_graph.specs.Steps.{Step}
use Rattle.hm_graph.specs.declared.hops.Hop.{Hop}
use Rattle.hm_edges.specs.declared.pieces.Piece.{Piece}
use Rattle.hm_graph_laws.specs.Units.{Unit, units_of}
use Rattle.hm_optimality_laws.proofs.Best.{first_ways_are_best}
use Rattle.hm_optimality_laws.proofs.Formats.{same_first}
use Rattle.hm_shortest.specs.Shortest.{certified_rows}

-- ---- A price for each layer

-- a price of a row isn't closed
pub record HasNumber (row : Row) : Type 0 where
  pub place : ℕ
  pub number : ℕ
  pub there : slice_index_or row place None ≡ Some number

some_there : (row : Row) (place n : ℕ) → slice_index_or row place None ≡ Some n → 0 < length row
some_there [] place n e = cc
some_there (price ∷ row) place n e = omega arith

-- where the least price over hops isn't closed, the next layer has a price that isn't
best_after : (next_row : Row) (hops : List Hop) (n : ℕ) → best_price next_row hops ≡ Some n → HasNumber next_row
best_after next_row [] n e = cc
best_after next_row (h ∷ hops) n e = by_price (slice_index_or next_row h.to None) refl (best_after next_row hops n) e
  where
    by_price : (p : Option ℕ) → slice_index_or next_row h.to None ≡ p → (best_price next_row hops ≡ Some n → HasNumber next_row) → lesser (over h.len p) (best_price next_row hops) ≡ Some n → HasNumber next_row
    by_price (Some m) is more e = record { place = h.to; number = m; there = is }
    by_price None is more e = more e

row_after : (next_row : Row) (step : Step) (place n : ℕ) → slice_index_or (row_over next_row step) place None ≡ Some n → HasNumber next_row
row_after next_row [] place n e = cc
row_after next_row (hops ∷ step) zero n e = best_after next_row hops n e
row_after next_row (hops ∷ step) (suc place) n e = row_after next_row step place n e

-- ---- No price too great

are_prices : (row : Row) → AreBelow (2 ^ 62) row → ArePrices row
are_prices [] b = tt
are_prices (None ∷ row) b = (tt, are_prices row b.1)
are_prices (Some n ∷ row) b = (omega (arith, b.0), are_prices row b.1)

-- ---- Rows

all_rows : (last : ℕ) (steps : List Step) → AreLow steps → length steps < 2 ^ 29 → HasNumber (first_row (rows_of last steps)) → AreRows (rows_of last steps)
all_rows last [] low few h = (some_there (zeros last) h.place h.number h.there, are_prices (zeros last) (prices_below last [] 0 low few), tt)
all_rows last (step ∷ steps) low few h =
    let next_row : Row = first_row (rows_of last steps) in (
      some_there (row_over next_row step) h.place h.number h.there,
      are_prices (row_over next_row step) (prices_below last (step ∷ steps) 0 low few),
      all_rows last steps low.1 (omega (arith, few)) (row_after next_row step h.place h.number h.there),
    )

-- those that are written are some of them
some_rows : (format : Format) (k : ℕ) (steps : List Step) (rows : List Row) → AreRows rows → AreRows (written_rows format k steps rows)
some_rows format k steps [] h = tt
some_rows format k [] (row ∷ rows) h = (h.0, h.1, tt)
some_rows format k (step ∷ steps) (row ∷ rows) h = by_test (is_left_out format k step) (some_rows format (suc k) steps rows h.2)
  where
    by_test : (b : Bool) → AreRows (written_rows format (suc k) steps rows) → AreRows (cond b (written_rows format (suc k) steps rows) (row ∷ written_rows format (suc k) steps rows))
    by_test true more = more
    by_test false more = (h.0, h.1, more)

first_number : (rows : List Row) (n : ℕ) → first_price rows ≡ Some n → HasNumber (first_row rows)
first_number [] n e = cc
first_number ([] ∷ rows) n e = cc
first_number ((price ∷ row) ∷ rows) n e = record { place = 0; number = n; there = e }

pub certified_readable : (g : GraphView) → IsTable g.source.table.entries → IsGraph g → length g.steps < 2 ^ 29 → Settled g.source.tree → AreRows (certified_rows g.source.table.entries g.source.rules g.source.format g.source.tree)
certified_readable g k h few s =
    let of = g.source in
    let units : List Unit = units_of of.rules of.tree in
    let bytes : Unit → Piece → List ℕ = piece_bytes of.table.entries in
    let least : rows_of g.last g.steps ≡ least_prices (source_edges of) units first_layer = rows_least (source_edges of) bytes units first_layer g.steps g.last h.fits in
    let best = first_ways_are_best of.table.entries k of.rules of.tree s in
    let rows : AreRows (rows_of g.last g.steps) = all_rows g.last g.steps h.low few (first_number (rows_of g.last g.steps) _ (ap first_price least ∙ same_first of.table.entries k of.rules of.format of.tree ∙ best.price)) in
    subst AreRows
    (ap (written_rows of.format 0 g.steps) least ∙ written_agrees (source_edges of) bytes units first_layer g.steps g.last of.format 0 _ h.fits)
    (some_rows of.format 0 g.steps (rows_of g.last g.steps) rows)
