-- A tree is written whole: its text and the rows of its certificate.
use Rattle.std.proofs.Common.{◌≡◌, ◌∙◌, ℕ, zero, suc, ◌+◌, ◌-◌, ◌*◌, ◌<◌, ◌≤◌, ◌^◌, Bool, true, false, cond, List, [], ◌∷◌, ◌++◌, length, map, Option, Some, None, refl, sym, ap, subst, arith, append_assoc, append-nil, take, slice_index_or}
use Rattle.std.proofs.lemmas.List.{map-append, take_more}
use Rattle.std.specs.Option.{option_map}
use Rattle.hm_base.specs.declared.plain.Format.TheVariants.{Sparse}
use Rattle.hm_cert.specs.Certificate.{row_line, row_lines}
use Rattle.hm_cert.specs.Rows.{AreBelow, IsBelow}
use Rattle.hm_edges.specs.Pieces.{own_bytes, piece_bytes}
use Rattle.hm_graph.proofs.Joined.{written_kept}
use Rattle.hm_graph.specs.Graphs.{AreLow, GraphView, IsGraph}
use Rattle.hm_graph.specs.Joined.{kept_rows}
use Rattle.hm_graph.specs.Prices.{first_row, row_over, rows_of, written_rows, zeros}
use Rattle.hm_graph.specs.Steps.{Step, leaves_out}
use Rattle.hm_graph.specs.Ways.{way_from}
use Rattle.hm_graph_laws.specs.Prices.{Row}
use Rattle.hm_graph_laws.specs.Units.{Unit, units_of}
use Rattle.hm_shortest.proofs.FromLast.{prices_below}
use Rattle.hm_shortest.proofs.Joined.{nowhere, way_of_units}
use Rattle.hm_shortest.specs.Direct.{FirstIs, first_line, place_of, rows_in}
use Rattle.hm_shortest.specs.Stretches.{IsWritten, Place, base, placed}
use Rattle.hm_shortest.specs.declared.direct.DirectWay.{DirectWay}
use Rattle.hm_refs.specs.Names.{Entry}

-- ---- Prices that are kept by how much less they are

twice_price : (n : ℕ) (p : Option ℕ) → IsBelow (n + 1) p → option_map (λ price. n - price) (option_map (λ price. n - price) p) ≡ p
twice_price n None below = refl
twice_price n (Some q) below = ap Some (omega (arith, below))

placed_twice : (n : ℕ) (row : Row) → AreBelow (n + 1) row → placed n (placed n row) ≡ row
placed_twice n [] below = refl
placed_twice n (p ∷ row) below = λ i. twice_price n p below.0 i ∷ placed_twice n row below.1 i

abbrev AllBelow : ℕ → List Row → Type 0
AllBelow bound [] = Prim.Unit {0}
AllBelow bound (row ∷ rows) = AreBelow bound row × AllBelow bound rows

price_more : (bound more : ℕ) (p : Option ℕ) → bound ≤ more → IsBelow bound p → IsBelow more p
price_more bound more None h below = tt
price_more bound more (Some q) h below = omega (arith, h, below)

row_more : (bound more : ℕ) (row : Row) → bound ≤ more → AreBelow bound row → AreBelow more row
row_more bound more [] h below = tt
row_more bound more (p ∷ row) h below = (price_more bound more p h below.0, row_more bound more row h below.1)

all_twice : (n : ℕ) (rows : List Row) → AllBelow base rows → base ≤ n → map (placed n) (map (placed n) rows) ≡ rows
all_twice n [] below h = refl
all_twice n (row ∷ rows) below h = λ i. placed_twice n row (row_more base (n + 1) row (omega (arith, h)) below.0) i ∷ all_twice n rows below.1 h i

kept_below : (last : ℕ) (steps : List Step) → AreLow steps → length steps < 2 ^ 29 → AllBelow base (kept_rows Sparse last steps)
kept_below last [] low few = tt
kept_below last (step ∷ steps) low few = by_test (leaves_out Sparse step) (prices_below last (step ∷ steps) 0 low few) (kept_below last steps low.1 (omega (arith, few)))
  where
    by_test : (b : Bool) → AreBelow base (row_over (first_row (rows_of last steps)) step) → AllBelow base (kept_rows Sparse last steps)
        → AllBelow base (cond b (kept_rows Sparse last steps) (row_over (first_row (rows_of last steps)) step ∷ kept_rows Sparse last steps))
    by_test true own more = more
    by_test false own more = (own, more)

-- ---- Lines

lines_append : (front more : List Row) → row_lines (front ++ more) ≡ row_lines front ++ row_lines more
lines_append [] more = refl
lines_append (row ∷ front) more = ap (λ b. row_line row ++ b) (lines_append front more) ∙ sym (append_assoc (row_line row) (row_lines front) (row_lines more))

one_line : (front : List Row) (row : Row) → row_lines (front ++ row ∷ []) ≡ row_lines front ++ row_line row
one_line front row = lines_append front (row ∷ []) ∙ ap (λ b. row_lines front ++ b) (append-nil (row_line row))

-- one more line
pub lines_more : (start text more : List ℕ) (rows : List Row) (k top : ℕ) (row : Row) → k < length rows → text ≡ start ++ row_lines (map (placed top) (take k rows)) → row ≡ placed top (slice_index_or rows k []) → more ≡ text ++ row_line row
    → more ≡ start ++ row_lines (map (placed top) (take (k + 1) rows))
lines_more start text more rows k top row inside done own is =
    let front : List Row = map (placed top) (take k rows) in
    let next : map (placed top) (take (k + 1) rows) ≡ front ++ row ∷ [] = ap (map (placed top)) (take_more rows k [] inside) ∙ map-append (placed top) (take k rows) (slice_index_or rows k [] ∷ []) ∙ ap (λ r. front ++ r ∷ []) (sym own) in
    is ∙ ap (λ b. b ++ row_line row) done ∙ append_assoc start (row_lines front) (row_line row) ∙ ap (λ b. start ++ b) (sym (one_line front row) ∙ ap row_lines (sym next))

-- the head, and lines after it
pub all_lines : (head : List ℕ) (first rows : List Row) (end : Row) (empty top one more whole : List ℕ) → empty ≡ [] → top ≡ empty ++ head → one ≡ top ++ row_lines first → more ≡ one ++ row_lines rows → whole ≡ more ++ row_line end → whole ≡ head ++ row_lines (first ++ (rows ++ end ∷ []))
all_lines head first rows end empty top one more whole none a b d e =
    let lines : row_lines (first ++ (rows ++ end ∷ [])) ≡ row_lines first ++ (row_lines rows ++ row_line end) = lines_append first (rows ++ end ∷ []) ∙ ap (λ x. row_lines first ++ x) (one_line rows end) in
    e ∙ ap (λ x. x ++ row_line end) (d ∙ ap (λ x. x ++ row_lines rows) (b ∙ ap (λ x. x ++ row_lines first) (a ∙ ap (λ x. x ++ head) none)))
    ∙ append_assoc (head ++ row_lines first) (row_lines rows) (row_line end) ∙ append_assoc head (row_lines first) (row_lines rows ++ row_line end) ∙ ap (λ x. head ++ x) (sym lines)

-- ---- The whole

pub whole_text : (t : List Entry) (units : List Unit) (steps : List Step) (last : ℕ) (way : DirectWay) → way.last ≡ last → IsWritten t way.last (map own_bytes units) steps nowhere (place_of way) → way.out.items ≡ way_from (piece_bytes t) last units steps 0
whole_text t units steps last way is written = written.out ∙ way_of_units t way.last units steps 0 ∙ ap (λ n. way_from (piece_bytes t) n units steps 0) is

lines_from : (b : Bool) (total : ℕ) (row end : Row) (rows : List Row) → row ≡ Some total ∷ [] → first_line (Some b) total ++ (cond b rows (row ∷ rows) ++ end ∷ []) ≡ row ∷ (rows ++ end ∷ [])
lines_from true total row end rows is = λ i. sym is i ∷ (rows ++ end ∷ [])
lines_from false total row end rows is = refl

pub whole_lines : (t : List Entry) (owns : List (List ℕ)) (steps : List Step) (last : ℕ) (way : DirectWay) → way.last ≡ last → AreLow steps → length steps < 2 ^ 29 → FirstIs None steps way.first → IsWritten t way.last owns steps nowhere (place_of way)
    → rows_in way ≡ written_rows Sparse 0 steps (rows_of last steps)
whole_lines t owns [] last way is low few first written = λ i. first_line (first i) way.total ++ (map (placed (base + way.total)) (written.rows i) ++ zeros (is i) ∷ [])
whole_lines t owns (step ∷ steps) last way is low few first written =
    let top : ℕ = base + way.total in
    let n : ℕ = way.last in
    let row : Row = row_over (first_row (rows_of n steps)) step in
    let kept : List Row = kept_rows Sparse n (step ∷ steps) in
    let rows : map (placed top) way.rows ≡ kept = ap (map (placed top)) written.rows ∙ all_twice top kept (kept_below n (step ∷ steps) low few) (omega arith) in
    let total : written.price ≡ way.total = omega (arith, written.total) in
    (λ i. first_line (first i) way.total ++ (rows i ++ zeros n ∷ []))
    ∙ lines_from (leaves_out Sparse step) way.total row (zeros n) (kept_rows Sparse n steps) (written.one ∙ ap (λ p. Some p ∷ []) total)
    ∙ sym (written_kept Sparse n step steps)
    ∙ ap (λ m. written_rows Sparse 0 (step ∷ steps) (rows_of m (step ∷ steps))) is
