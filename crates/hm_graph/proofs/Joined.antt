-- Prices, rows and ways over steps between which a layer has one state.
use Rattle.std.proofs.Common.{◌≡◌, ◌∙◌, ℕ, zero, suc, ◌+◌, ◌==◌, not, ◌&&◌, Bool, true, false, cond, List, [], ◌∷◌, ◌++◌, map, get_or, Option, Some, None, refl, sym, ap, subst, arith, append_assoc, slice_get, slice_index_or, ⊎_elim}
use Rattle.std.proofs.Math.ListN as lists
use Rattle.std.proofs.lemmas.Bool.{cases_lt, false_from_ne_true}
use Rattle.std.proofs.lemmas.Bool.Decides.{Decides-eqb}
use Rattle.std.specs.Prelude.{min, nat_eq}
use Rattle.hm_base.specs.declared.plain.Format.{Format}
use Rattle.hm_edges.specs.declared.pieces.Piece.{Piece}
use Rattle.hm_graph_laws.specs.Prices.{Row}
use Rattle.hm_graph_laws.specs.Ways.{lesser, over, same_price}
use Rattle.hm_graph.specs.Joined.{KeptRowsAreJoined, PricesAreJoined, WaysAreJoined, WrittenAreKept, kept_rows, raised}
use Rattle.hm_graph.specs.Prices.{best_price, first_row, is_left_out, price_over, row_over, rows_of, written_rows, zeros}
use Rattle.hm_graph.specs.Steps.{Step, leaves_out}
use Rattle.hm_graph.specs.Ways.{along, choice, hop_taken, place_over, way_from}
use Rattle.hm_graph.specs.declared.hops.Hop.{Hop}

-- ---- Raised prices

over_over : (n len : ℕ) (p : Option ℕ) → over len (over n p) ≡ over n (over len p)
over_over n len None = refl
over_over n len (Some x) = ap Some (omega arith)

lesser_over : (n : ℕ) (p q : Option ℕ) → lesser (over n p) (over n q) ≡ over n (lesser p q)
lesser_over n None q = refl
lesser_over n (Some x) None = refl
lesser_over n (Some x) (Some y) = ap Some (omega arith)

raised_at : (n : ℕ) (row : Row) (place : ℕ) → get_or (raised n row) place None ≡ over n (get_or row place None)
raised_at n row place = lists.get_or-map (over n) row place None

price_raised : (n : ℕ) (row : Row) (h : Hop) → price_over (raised n row) h ≡ over n (price_over row h)
price_raised n row h = ap (over h.len) (raised_at n row h.to) ∙ over_over n h.len (get_or row h.to None)

best_raised : (n : ℕ) (row : Row) (hops : List Hop) → best_price (raised n row) hops ≡ over n (best_price row hops)
best_raised n row [] = refl
best_raised n row (h ∷ hops) = (λ i. lesser (price_raised n row h i) (best_raised n row hops i)) ∙ lesser_over n (price_over row h) (best_price row hops)

row_raised : (n : ℕ) (row : Row) (step : Step) → row_over (raised n row) step ≡ raised n (row_over row step)
row_raised n row [] = refl
row_raised n row (hops ∷ step) = λ i. best_raised n row hops i ∷ row_raised n row step i

-- ---- Rows

pub prices_joined : PricesAreJoined
prices_joined last [] more price one = one ∙ ap (λ n. Some n ∷ []) (no_more price)
  where
    no_more : (n : ℕ) → n ≡ n + 0
    no_more n = omega arith
prices_joined last (step ∷ front) more price one = ap (λ row. row_over row step) (prices_joined last front more price one) ∙ row_raised price (first_row (rows_of 1 front)) step

kept_more : (b : Bool) (n : ℕ) (row own : Row) (rows front more : List Row) → row ≡ raised n own → rows ≡ map (raised n) front ++ more → cond b rows (row ∷ rows) ≡ map (raised n) (cond b front (own ∷ front)) ++ more
kept_more true n row own rows front more is are = are
kept_more false n row own rows front more is are = λ i. is i ∷ are i

pub kept_joined : KeptRowsAreJoined
kept_joined format last [] more price one = refl
kept_joined format last (step ∷ front) more price one =
    let row : Row = first_row (rows_of 1 front) in
    kept_more (leaves_out format step) price (row_over (first_row (rows_of last (front ++ more))) step) (row_over row step) (kept_rows format last (front ++ more)) (kept_rows format 1 front) (kept_rows format last more)
    (ap (λ r. row_over r step) (prices_joined last front more price one) ∙ row_raised price row step) (kept_joined format last front more price one)

written_more : (b : Bool) (row end : Row) (rows written : List Row) → written ≡ rows ++ end ∷ [] → cond b written (row ∷ written) ≡ cond b rows (row ∷ rows) ++ end ∷ []
written_more true row end rows written is = is
written_more false row end rows written is = λ i. row ∷ is i

-- a layer that isn't the first one
out_later : (format : Format) (k : ℕ) (step : Step) → is_left_out format (suc k) step ≡ leaves_out format step
out_later format k step = λ i. not (false_from_ne_true (suc k == 0) (λ t. absurd (omega (arith, (Decides-eqb (suc k) 0).0 t))) i) && leaves_out format step

written_later : (format : Format) (k last : ℕ) (steps : List Step) → written_rows format (suc k) steps (rows_of last steps) ≡ kept_rows format last steps ++ zeros last ∷ []
written_later format k last [] = refl
written_later format k last (step ∷ steps) =
    let row : Row = row_over (first_row (rows_of last steps)) step in
    let more : List Row = written_rows format (suc (suc k)) steps (rows_of last steps) in
    ap (λ b. cond b more (row ∷ more)) (out_later format k step)
    ∙ written_more (leaves_out format step) (row_over (first_row (rows_of last steps)) step) (zeros last) (kept_rows format last steps) (written_rows format (suc (suc k)) steps (rows_of last steps)) (written_later format (suc k) last steps)

pub written_kept : WrittenAreKept
written_kept format last step steps = ap (λ rows. row_over (first_row (rows_of last steps)) step ∷ rows) (written_later format 0 last steps)

-- ---- The hop that is taken

same_over : (n : ℕ) (p q : Option ℕ) → same_price (over n p) (over n q) ≡ same_price p q
same_over n None None = refl
same_over n None (Some y) = refl
same_over n (Some x) None = refl
same_over n (Some x) (Some y) = by_test (nat_eq x y) refl
  where
    by_test : (b : Bool) → nat_eq x y ≡ b → nat_eq (n + x) (n + y) ≡ b
    by_test true is = (Decides-eqb (n + x) (n + y)).1 (ap (λ k. n + k) ((Decides-eqb x y).0 is))
    by_test false is = false_from_ne_true (nat_eq (n + x) (n + y)) (λ t.
        let same : x ≡ y = omega (arith, (Decides-eqb (n + x) (n + y)).0 t) in
        let yes : nat_eq x y ≡ true = (Decides-eqb x y).1 same in
        absurd (cc))

place_raised : (n : ℕ) (row : Row) (price : Option ℕ) (hops : List Hop) → place_over (raised n row) (over n price) hops ≡ place_over row price hops
place_raised n row price [] = refl
place_raised n row price (h ∷ hops) =
    λ i. cond ((ap (λ p. same_price p (over n price)) (price_raised n row h) ∙ same_over n (price_over row h) price) i) 0 (suc (place_raised n row price hops i))

choice_raised : (n : ℕ) (row : Row) (hops : List Hop) → choice (raised n row) hops ≡ choice row hops
choice_raised n row hops = ap (λ p. place_over (raised n row) p hops) (best_raised n row hops) ∙ place_raised n row (best_price row hops) hops

taken_raised : (n : ℕ) (row : Row) (step : Step) (place : ℕ) → hop_taken (raised n row) step place ≡ hop_taken row step place
taken_raised n row step place = let hops : List Hop = slice_index_or step place [] in ap (slice_get hops) (choice_raised n row hops)

-- there is a hop, and it leads to a state with a price
abbrev LeadsOn : Row → Option Hop → Type 0
LeadsOn row None = ⊥
LeadsOn row (Some h) = (price : ℕ) × (slice_index_or row h.to None ≡ Some price)

over_some : (len n : ℕ) (p : Option ℕ) → over len p ≡ Some n → (price : ℕ) × (p ≡ Some price)
over_some len n None is = absurd (cc)
over_some len n (Some x) is = (x, refl)

same_some : (p : Option ℕ) (n : ℕ) → same_price p (Some n) ≡ true → p ≡ Some n
same_some None n is = absurd (cc)
same_some (Some x) n is = ap Some ((Decides-eqb x n).0 is)

some_is : (x n : ℕ) → Some x ≡ Some n → x ≡ n
some_is x n is = cc

-- the next ones have a price that the first doesn't have
rest_has : (p q : Option ℕ) (n : ℕ) → same_price p (Some n) ≡ false → lesser p q ≡ Some n → q ≡ Some n
rest_has None q n other is = is
rest_has (Some x) None n other is = absurd (let same : nat_eq x n ≡ true = (Decides-eqb x n).1 (some_is x n is) in cc)
rest_has (Some x) (Some y) n other is =
    let apart : x ≡ n → ⊥ = λ same. let yes : nat_eq x n ≡ true = (Decides-eqb x n).1 same in absurd (cc) in
    ap Some (lesser_is x y n apart (some_is (min x y) n is))
  where
    lesser_is : (x y n : ℕ) → (x ≡ n → ⊥) → min x y ≡ n → y ≡ n
    lesser_is x y n apart is = ⊎_elim (λ less. absurd (apart (omega (arith, is, less)))) (λ less. omega (arith, is, less)) (cases_lt x y)

leads_on : (row : Row) (n : ℕ) (hops : List Hop) → best_price row hops ≡ Some n → LeadsOn row (slice_get hops (place_over row (Some n) hops))
leads_on row n [] is = absurd (cc)
leads_on row n (h ∷ hops) is = by_test (same_price (price_over row h) (Some n)) refl (leads_on row n hops)
  where
    by_test : (b : Bool) → same_price (price_over row h) (Some n) ≡ b → (best_price row hops ≡ Some n → LeadsOn row (slice_get hops (place_over row (Some n) hops)))
        → LeadsOn row (slice_get (h ∷ hops) (cond b 0 (suc (place_over row (Some n) hops))))
    by_test true same more = over_some h.len n (slice_index_or row h.to None) (same_some (price_over row h) n same)
    by_test false same more = more (rest_has (price_over row h) (best_price row hops) n same is)

taken_leads : (row : Row) (step : Step) (place own : ℕ) → slice_index_or (row_over row step) place None ≡ Some own → LeadsOn row (hop_taken row step place)
taken_leads row step place own is =
    let hops : List Hop = slice_index_or step place [] in
    let best : best_price row hops ≡ Some own = sym (lists.get_or-map (best_price row) step place []) ∙ is in
    subst (λ price. LeadsOn row (slice_get hops (place_over row price hops))) (sym best) (leads_on row own hops best)

-- ---- Ways

along_joined : (bytes : Piece → List ℕ) (row : Row) (whole front : ℕ → List ℕ) (rest : List ℕ) (taken : Option Hop) → LeadsOn row taken
    → ((place own : ℕ) → slice_index_or row place None ≡ Some own → whole place ≡ front place ++ rest) → along bytes whole taken ≡ along bytes front taken ++ rest
along_joined bytes row whole front rest None leads same = absurd leads
along_joined bytes row whole front rest (Some h) leads same = ap (λ b. bytes h.piece ++ b) (same h.to leads.0 leads.1) ∙ sym (append_assoc (bytes h.piece) (front h.to) rest)

pub ways_joined : WaysAreJoined
ways_joined bytes last [] units [] more price zero own one count is = refl
ways_joined bytes last [] units [] more price (suc place) own one count is = absurd (cc)
ways_joined bytes last [] units (step ∷ front) more price place own one count is = absurd (omega (arith, count))
ways_joined bytes last (u ∷ us) units [] more price place own one count is = absurd (omega (arith, count))
ways_joined bytes last (u ∷ us) units (step ∷ front) more price place own one count is =
    let row : Row = first_row (rows_of 1 front) in
    let whole : ℕ → List ℕ = way_from bytes last (us ++ units) (front ++ more) in
    ap (along (bytes u) whole) (ap (λ r. hop_taken r step place) (prices_joined last front more price one) ∙ taken_raised price row step place)
    ∙ along_joined (bytes u) row whole (way_from bytes 1 us front) (way_from bytes last units more 0) (hop_taken row step place) (taken_leads row step place own is)
    (λ n q at. ways_joined bytes last us units front more price n q one (omega (arith, count)) at)
