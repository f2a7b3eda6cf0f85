-- The first way, written up to a layer of one state and on from there.
use Rattle.std.proofs.Common.{◌≡◌, ◌∙◌, ℕ, zero, suc, ◌+◌, ◌-◌, ◌<◌, ◌≤◌, ◌^◌, true, cond, List, [], ◌∷◌, ◌++◌, length, map, get_or, Option, Some, None, refl, sym, ap, subst, arith, append_assoc, append-nil, slice_get, slice_index_or}
use Rattle.std.proofs.Math.ListN.{replicate}
use Rattle.std.proofs.lemmas.List.{length-map, map-append}
use Rattle.std.proofs.lemmas.List.Elements.{All-append}
use Rattle.std.specs.Option.{option_map}
use Rattle.hm_base.specs.declared.plain.Format.TheVariants.{Sparse}
use Rattle.hm_edges.specs.Pieces.{own_bytes, piece_bytes, piece_text}
use Rattle.hm_edges.specs.declared.pieces.Piece.{Piece}
use Rattle.hm_edges.specs.declared.pieces.Piece.TheVariants as pieces
use Rattle.hm_graph.proofs.Joined as joined
use Rattle.hm_graph.specs.Graphs.{only_hop}
use Rattle.hm_graph.specs.Joined.{IsOnePrice, kept_rows, raised}
use Rattle.hm_graph.specs.Prices.{best_price, first_row, price_over, rows_of}
use Rattle.hm_graph.specs.Steps.{Step}
use Rattle.hm_graph.specs.Ways.{along, choice, hop_taken, way_from}
use Rattle.hm_graph.specs.declared.hops.Hop.{Hop}
use Rattle.hm_graph_laws.specs.Prices.{Row}
use Rattle.hm_graph_laws.specs.Units.{Unit, fixed}
use Rattle.hm_graph_laws.specs.Ways.{lesser, over, same_price}
use Rattle.hm_shortest.proofs.Prices.{same_self}
use Rattle.hm_shortest.specs.Stretches.{IsWritten, Place, base, own_way, placed}
use Rattle.hm_refs.specs.Names.{Entry}

-- ---- Rows that are kept by how much less they are

placed_price : (n top : ℕ) (p : Option ℕ) → option_map (λ price. (top + n) - price) (over n p) ≡ option_map (λ price. top - price) p
placed_price n top None = refl
placed_price n top (Some q) = ap Some (omega arith)

placed_raised : (n top : ℕ) (row : Row) → placed (top + n) (raised n row) ≡ placed top row
placed_raised n top [] = refl
placed_raised n top (p ∷ row) = λ i. placed_price n top p i ∷ placed_raised n top row i

all_raised : (n top : ℕ) (rows : List Row) → map (placed (top + n)) (map (raised n) rows) ≡ map (placed top) rows
all_raised n top [] = refl
all_raised n top (row ∷ rows) = λ i. placed_raised n top row i ∷ all_raised n top rows i

-- ---- One after the other

pub way_joined : (t : List Entry) (last : ℕ) (us vs : List (List ℕ)) (front more : List Step) (a b d : Place) → length us ≡ length front → IsWritten t 1 us front a b → IsWritten t last vs more b d → IsWritten t last (us ++ vs) (front ++ more) a d
way_joined t last us vs front more a b d count one next =
    let top : ℕ = base + d.total in
    let kept : List Row = kept_rows Sparse 1 front in
    let rest : List Row = kept_rows Sparse last more in
    let sum : top ≡ (base + b.total) + next.price = omega (arith, next.total) in
    let units : length (map fixed us) ≡ length front = length-map us fixed ∙ count in
    let way : own_way t last (us ++ vs) (front ++ more) 0 ≡ own_way t 1 us front 0 ++ own_way t last vs more 0 =
    ap (λ xs. way_from (piece_bytes t) last xs (front ++ more) 0) (map-append fixed us vs)
    ∙ joined.ways_joined (piece_bytes t) last (map fixed us) (map fixed vs) front more next.price 0 one.price next.one units (ap (λ row. slice_index_or row 0 None) one.one) in
    let all : map (placed top) (kept_rows Sparse last (front ++ more)) ≡ map (placed (base + b.total)) kept ++ map (placed top) rest =
    ap (map (placed top)) (joined.kept_joined Sparse last front more next.price next.one) ∙ map-append (placed top) (map (raised next.price) kept) rest
    ∙ ap (λ xs. xs ++ map (placed top) rest) (ap (λ n. map (placed n) (map (raised next.price) kept)) sum ∙ all_raised next.price (base + b.total) kept) in
    record {
      price = next.price + one.price;
      one = joined.prices_joined last front more next.price next.one ∙ ap (raised next.price) one.one;
      total = omega (arith, one.total, next.total);
      out = next.out ∙ ap (λ b. b ++ own_way t last vs more 0) one.out ∙ append_assoc a.out (own_way t 1 us front 0) (own_way t last vs more 0) ∙ ap (λ b. a.out ++ b) (sym way);
      rows = next.rows ∙ ap (λ rows. rows ++ map (placed top) rest) one.rows ∙ append_assoc a.rows (map (placed (base + b.total)) kept) (map (placed top) rest) ∙ ap (λ rows. a.rows ++ rows) (sym all);
    }

-- ---- One step

lesser_none : (price : Option ℕ) → lesser price None ≡ price
lesser_none None = refl
lesser_none (Some n) = refl

choice_one : (row : Row) (h : Hop) → choice row (h ∷ []) ≡ 0
choice_one row h = ap (λ b. cond b 0 1) (ap (same_price (price_over row h)) (lesser_none (price_over row h)) ∙ same_self (price_over row h))

-- nothing is written
abbrev pub nowhere : Place
nowhere = record { total = 0; out = []; rows = [] }

-- where the text is after these bytes
abbrev pub after : Place → ℕ → List ℕ → Place
after a len bytes = record { total = a.total + len; out = a.out ++ bytes; rows = a.rows }

hop_written : (t : List Entry) (own : List ℕ) (h : Hop) (a : Place) → h.to ≡ 0 → IsWritten t 1 (own ∷ []) (((h ∷ []) ∷ []) ∷ []) a (after a h.len (piece_text t own h.piece))
hop_written t own h a to =
    let row : Row = first_row (rows_of 1 []) in
    let price : price_over row h ≡ Some (h.len + 0) = ap (λ n. over h.len (slice_index_or row n None)) to in
    let way : own_way t 1 (own ∷ []) (((h ∷ []) ∷ []) ∷ []) 0 ≡ piece_text t own h.piece ++ [] = ap (λ n. along (piece_bytes t (fixed own)) (λ m. []) (slice_get (h ∷ []) n)) (choice_one row h) in
    record {
      price = h.len + 0;
      one = ap (λ p. p ∷ []) (lesser_none (price_over row h) ∙ price);
      total = omega arith;
      out = ap (λ b. a.out ++ b) (sym (way ∙ append-nil (piece_text t own h.piece)));
      rows = sym (append-nil a.rows);
    }

some_is : {A : Type 0} (x y : A) → Some x ≡ Some y → x ≡ y
some_is x y is = cc

pub one_written : (t : List Entry) (own : List ℕ) (step : Step) (h : Hop) (a : Place) → only_hop step ≡ Some h → h.to ≡ 0 → IsWritten t 1 (own ∷ []) (step ∷ []) a (after a h.len (piece_text t own h.piece))
one_written t own [] h a only to = absurd (cc)
one_written t own ([] ∷ []) h a only to = absurd (cc)
one_written t own ((x ∷ []) ∷ []) h a only to = subst (λ (y : Hop). IsWritten t 1 (own ∷ []) (((y ∷ []) ∷ []) ∷ []) a (after a h.len (piece_text t own h.piece))) (sym (some_is x h only)) (hop_written t own h a to)
one_written t own ((x ∷ y ∷ hops) ∷ []) h a only to = absurd (cc)
one_written t own (hops ∷ more ∷ step) h a only to = absurd (cc)

-- ---- Copied characters

none_written : (t : List Entry) (a : Place) → IsWritten t 1 [] [] a a
none_written t a = record { price = 0; one = refl; total = omega arith; out = sym (append-nil a.out); rows = sym (append-nil a.rows) }

pub copied_written : (t : List Entry) (bytes : List ℕ) (step : Step) (h : Hop) (a : Place) → only_hop step ≡ Some h → h.to ≡ 0 → h.len ≡ 1 → h.piece ≡ pieces.Itself
    → IsWritten t 1 (map (λ b. b ∷ []) bytes) (replicate (length bytes) step) a (after a (length bytes) bytes)
copied_written t [] step h a only to len piece =
    let none : a.total + 0 ≡ a.total = omega arith in
    subst (λ A. A) (λ i. IsWritten t 1 [] [] a (record { total = sym none i; out = sym (append-nil a.out) i; rows = a.rows })) (none_written t a)
copied_written t (b ∷ bytes) step h a only to len piece =
    let own : IsWritten t 1 ((b ∷ []) ∷ []) (step ∷ []) a (after a 1 (b ∷ [])) =
    subst (λ A. A) (λ i. IsWritten t 1 ((b ∷ []) ∷ []) (step ∷ []) a (after a (len i) (piece_text t (b ∷ []) (piece i)))) (one_written t (b ∷ []) step h a only to) in
    let rest = copied_written t bytes step h (after a 1 (b ∷ [])) only to len piece in
    let sum : a.total + 1 + length bytes ≡ a.total + length (b ∷ bytes) = omega arith in
    subst (λ A. A) (λ i. IsWritten t 1 (map (λ b. b ∷ []) (b ∷ bytes)) (replicate (length (b ∷ bytes)) step) a (record { total = sum i; out = append_assoc a.out (b ∷ []) bytes i; rows = a.rows }))
    (way_joined t 1 ((b ∷ []) ∷ []) (map (λ b. b ∷ []) bytes) (step ∷ []) (replicate (length bytes) step) a (after a 1 (b ∷ [])) (after (after a 1 (b ∷ [])) (length bytes) bytes) refl own rest)

-- ---- Units

-- what is written of units is by their own bytes
pub way_of_units : (t : List Entry) (last : ℕ) (units : List Unit) (steps : List Step) (place : ℕ) → own_way t last (map own_bytes units) steps place ≡ way_from (piece_bytes t) last units steps place
way_of_units t last [] steps place = refl
way_of_units t last (u ∷ units) [] place = refl
way_of_units t last (u ∷ units) (step ∷ steps) place = by_hop (hop_taken (first_row (rows_of last steps)) step place) (way_of_units t last units steps)
  where
    by_hop : (taken : Option Hop) → ((n : ℕ) → own_way t last (map own_bytes units) steps n ≡ way_from (piece_bytes t) last units steps n)
        → along (piece_bytes t (fixed (own_bytes u))) (own_way t last (map own_bytes units) steps) taken ≡ along (piece_bytes t u) (way_from (piece_bytes t) last units steps) taken
    by_hop None same = refl
    by_hop (Some h) same = ap (λ b. piece_text t (own_bytes u) h.piece ++ b) (same h.to)
