-- Numbers that stand for prices, and sums of them.
use Rattle.std.proofs.Common.{◌≡◌, ◌≢◌, ◌≤◌, ◌<◌, ◌+◌, ◌^◌, ◌==◌, ℕ, zero, suc, Bool, true, false, cond, List, [], ◌∷◌, length, map, drop, get_or, slice_get, min, Option, Some, None, refl, sym, ap, ◌∙◌, subst, arith}
use Rattle.std.proofs.Math.Numerals.{lt_of_le_of_ne}
use Rattle.std.proofs.lemmas.Bool.{eqb-false, eqb-true, eq-eqb, le-ltb}
use Rattle.std.proofs.lemmas.List.{drop_more}
use Rattle.hm_cert.specs.Certificate.{IsPrice, ArePrices, AreRows}
use Rattle.hm_cert.specs.Layout.{told}
use Rattle.hm_graph_laws.specs.Prices.{Row}
use Rattle.hm_graph_laws.specs.Ways.{lesser, over}
use Rattle.hm_graph.specs.Graphs.{AreLowHops, IsLowStep}
use Rattle.hm_graph.specs.Prices.{price_over, best_price, row_over}
use Rattle.hm_graph.specs.Steps.{Step}
use Rattle.hm_graph.specs.declared.hops.Hop.{Hop}
use Rattle.hm_check.specs.Rows.{is_above, high_in}
use Rattle.hm_cert.specs.Rows.{AreBelow, IsBelow}
use Rattle.hm_cert.proofs.Below.{below_in}

-- ---- What a number stands for

pub number_told : (p : ℕ) → p ≢ 18446744073709551615 → told p ≡ Some p
number_told p h = by_test (p == 18446744073709551615) refl
  where
    by_test : (b : Bool) → (p == 18446744073709551615) ≡ b → cond b None (Some p) ≡ Some p
    by_test true e = absurd (h (eqb-true p 18446744073709551615 e))
    by_test false e = refl

pub closed_told : (p : ℕ) → p ≡ 18446744073709551615 → told p ≡ None
closed_told p h = rw (eq-eqb p 18446744073709551615 h) refl

-- the price that a number in a row stands for
pub told_at : (numbers : List ℕ) (i p : ℕ) → slice_get numbers i ≡ Some p → get_or (map told numbers) i None ≡ told p
told_at [] i p e = absurd (cc)
told_at (q ∷ numbers) zero p e = let is : q ≡ p = cc in ap told is
told_at (q ∷ numbers) (suc i) p e = told_at numbers i p e

-- of two numbers the lesser stands for the lesser price
pub told_lesser : (a b : ℕ) → a ≤ 18446744073709551615 → b ≤ 18446744073709551615 → told (min a b) ≡ lesser (told a) (told b)
told_lesser a b ha hb = by_left (a == 18446744073709551615) refl
  where
    both : a ≢ 18446744073709551615 → b ≢ 18446744073709551615 → min a b ≢ 18446744073709551615
    both na nb e = let la : a < 18446744073709551615 = lt_of_le_of_ne ha na in omega (arith, la, e)

    by_right : a ≢ 18446744073709551615 → (t : Bool) → (b == 18446744073709551615) ≡ t → told (min a b) ≡ lesser (told a) (told b)
    by_right na true e =
        let is : b ≡ 18446744073709551615 = eqb-true b 18446744073709551615 e in
        let least : min a b ≡ a = omega (arith, ha, is) in
        ap told least ∙ number_told a na ∙ sym (λ i. lesser (number_told a na i) (closed_told b is i))
    by_right na false e =
        let nb : b ≢ 18446744073709551615 = eqb-false b 18446744073709551615 e in
        number_told (min a b) (both na nb) ∙ sym (λ i. lesser (number_told a na i) (number_told b nb i))

    by_left : (t : Bool) → (a == 18446744073709551615) ≡ t → told (min a b) ≡ lesser (told a) (told b)
    by_left true e =
        let is : a ≡ 18446744073709551615 = eqb-true a 18446744073709551615 e in
        let least : min a b ≡ b = omega (arith, hb, is) in
        ap told least ∙ ap (λ p. lesser p (told b)) (sym (closed_told a is))
    by_left false e = by_right (eqb-false a 18446744073709551615 e) (b == 18446744073709551615) refl

-- the price that a sum stands for
pub told_over : (next_row : List ℕ) (h : Hop) (p : ℕ) → slice_get next_row h.to ≡ Some p → p ≢ 18446744073709551615 → p + h.len ≢ 18446744073709551615 → told (p + h.len) ≡ price_over (map told next_row) h
told_over next_row h p there open_price open_sum =
    number_told (p + h.len) open_sum ∙ ap Some (omega arith) ∙ sym (ap (over h.len) (told_at next_row h.to p there ∙ number_told p open_price))

pub lesser_assoc : (a b c : Option ℕ) → lesser (lesser a b) c ≡ lesser a (lesser b c)
lesser_assoc None b c = refl
lesser_assoc (Some a) None c = refl
lesser_assoc (Some a) (Some b) None = refl
lesser_assoc (Some a) (Some b) (Some c) = ap Some (omega arith)

-- what is best so far, one hop on
pub best_turn : (best price best_then : ℕ) (next_row : Row) (h : Hop) (hops : List Hop) (i : ℕ) → i < length hops → h ≡ get_or hops i h → best_then ≡ min best price → best ≤ 18446744073709551615 → price ≤ 18446744073709551615 → told price ≡ price_over next_row h
    → lesser (told best_then) (best_price next_row (drop (i + 1) hops)) ≡ lesser (told best) (best_price next_row (drop i hops))
best_turn best price best_then next_row h hops i within here is hb hp e =
    ap (λ q. lesser q (best_price next_row (drop (i + 1) hops))) (ap told is ∙ told_lesser best price hb hp ∙ ap (lesser (told best)) e)
    ∙ lesser_assoc (told best) (price_over next_row h) (best_price next_row (drop (i + 1) hops))
    ∙ ap (λ x. lesser (told best) (best_price next_row (x ∷ drop (i + 1) hops))) here
    ∙ ap (λ xs. lesser (told best) (best_price next_row xs)) (sym (drop_more hops i h within))

-- ---- Prices below a number

pub below_more : (n m : ℕ) (row : Row) → n ≤ m → AreBelow n row → AreBelow m row
below_more n m [] h b = tt
below_more n m (price ∷ row) h b = (one price b.0, below_more n m row h b.1)
  where
    one : (p : Option ℕ) → IsBelow n p → IsBelow m p
    one None k = tt
    one (Some q) k = omega (arith, k, h)

-- a number in a row below n is below it
pub number_below : (next_row : List ℕ) (i p n : ℕ) → slice_get next_row i ≡ Some p → p ≢ 18446744073709551615 → AreBelow n (map told next_row) → p < n
number_below next_row i p n there open_price below = subst (IsBelow n) (told_at next_row i p there ∙ number_told p open_price) (below_in (map told next_row) n i below)

lesser_below : (n : ℕ) (a b : Option ℕ) → IsBelow n a → IsBelow n b → IsBelow n (lesser a b)
lesser_below n None b ha hb = hb
lesser_below n (Some a) None ha hb = ha
lesser_below n (Some a) (Some b) ha hb = omega (arith, ha, hb)

over_below : (n m len : ℕ) (price : Option ℕ) → len < m → IsBelow n price → IsBelow (n + m) (over len price)
over_below n m len None h b = tt
over_below n m len (Some p) h b = omega (arith, h, b)

best_below : (n : ℕ) (next_row : Row) (hops : List Hop) → AreBelow n next_row → AreLowHops hops → IsBelow (n + 2 ^ 33) (best_price next_row hops)
best_below n next_row [] b low = tt
best_below n next_row (h ∷ hops) b low =
    lesser_below (n + 2 ^ 33) (price_over next_row h) (best_price next_row hops) (over_below n (2 ^ 33) h.len (get_or next_row h.to None) low.0 (below_in next_row n h.to b)) (best_below n next_row hops b low.1)

-- the prices before a step
pub row_below : (n : ℕ) (next_row : Row) (step : Step) → AreBelow n next_row → IsLowStep step → AreBelow (n + 2 ^ 33) (row_over next_row step)
row_below n next_row [] b low = tt
row_below n next_row (hops ∷ step) b low = (best_below n next_row hops b low.0, row_below n next_row step b low.1)

-- prices that can be written
pub written_below : (row : Row) → ArePrices row → AreBelow (2 ^ 63) row
written_below [] h = tt
written_below (price ∷ row) h = (one price h.0, written_below row h.1)
  where
    one : (p : Option ℕ) → IsPrice p → IsBelow (2 ^ 63) p
    one None k = tt
    one (Some q) k = k

pub row_at : (rows : List Row) (i : ℕ) → AreRows rows → ArePrices (get_or rows i [])
row_at [] i h = tt
row_at (row ∷ rows) zero h = h.1
row_at (row ∷ rows) (suc i) h = row_at rows i h.2

-- ---- Hops that write little

pub low_hop : (hops : List Hop) (i : ℕ) (d : Hop) → i < length hops → AreLowHops hops → (get_or hops i d).len < 2 ^ 33
low_hop [] i d h low = absurd (omega (arith, h))
low_hop (x ∷ hops) zero d h low = low.0
low_hop (x ∷ hops) (suc i) d h low = low_hop hops i d (omega (arith, h)) low.1

-- ---- Prices above their bounds

pub high_later : (k i : ℕ) (price bound : Option ℕ) (row bounds : Row) → is_above price bound ≡ false → high_in k i (price ∷ row) (bound ∷ bounds) ≡ high_in k (suc i) row bounds
high_later k i price bound row bounds e = rw e refl

-- no row is above itself
pub high_self : (k i : ℕ) (row : Row) → high_in k i row row ≡ None
high_self k i [] = refl
high_self k i (price ∷ row) = high_later k i price price row row (not_above price) ∙ high_self k (suc i) row
  where
    not_above : (p : Option ℕ) → is_above p p ≡ false
    not_above None = refl
    not_above (Some a) = le-ltb a a (omega arith)
