-- Prices over steps over which no state changes its place.
use Rattle.std.proofs.Common.{◌≡◌, ◌∙◌, ℕ, suc, ◌+◌, ◌*◌, ◌<◌, List, [], ◌∷◌, length, map, get_or, Option, Some, None, refl, sym, ap, subst, arith}
use Rattle.hm_graph_laws.specs.Prices.{Row}
use Rattle.hm_graph_laws.specs.Ways.{lesser, over}
use Rattle.hm_graph.specs.Prices.{best_price, price_over, row_over}
use Rattle.hm_graph.specs.Steps.{Step}
use Rattle.hm_graph.specs.Still.{AreStill, Stays}
use Rattle.hm_graph.specs.declared.hops.Hop.{Hop}

-- ---- Prices with more bytes

over_none : (p : Option ℕ) → p ≡ over 0 p
over_none None = refl
over_none (Some x) = ap Some (omega arith)

over_more : (n len : ℕ) (p : Option ℕ) → over (suc n * len) p ≡ over len (over (n * len) p)
over_more n len None = refl
over_more n len (Some x) = ap Some (grind arith)

pub each_none : (row : Row) → row ≡ map (over 0) row
each_none [] = refl
each_none (p ∷ row) = λ i. over_none p i ∷ each_none row i

pub each_more : (n len : ℕ) (row : Row) → map (over (suc n * len)) row ≡ map (over len) (map (over (n * len)) row)
each_more n len [] = refl
each_more n len (p ∷ row) = λ i. over_more n len p i ∷ each_more n len row i

-- ---- Over one step

lesser_none : (price : Option ℕ) → lesser price None ≡ price
lesser_none None = refl
lesser_none (Some n) = refl

stays_price : (row : Row) (hops : List Hop) (len place : ℕ) → Stays len place hops → best_price row hops ≡ over len (get_or row place None)
stays_price row [] len place h = absurd h
stays_price row (x ∷ []) len place h = lesser_none (price_over row x) ∙ (λ i. over (h.0 i) (get_or row (h.1 i) None))
stays_price row (x ∷ y ∷ hops) len place h = absurd h

next_place : (k p : ℕ) → k + suc p ≡ suc k + p
next_place k p = omega arith

still_from : (row rest : Row) (k len : ℕ) (step : Step) → length rest ≡ length step → ((p : ℕ) → p < length step → Stays len (k + p) (get_or step p [])) → ((p : ℕ) → get_or row (k + p) None ≡ get_or rest p None)
    → row_over row step ≡ map (over len) rest
still_from row [] k len [] same still at = refl
still_from row (q ∷ rest) k len [] same still at = absurd (omega (arith, same))
still_from row [] k len (hops ∷ step) same still at = absurd (omega (arith, same))
still_from row (q ∷ rest) k len (hops ∷ step) same still at =
    let front : best_price row hops ≡ over len q = stays_price row hops len (k + 0) (still 0 (omega arith)) ∙ ap (over len) (at 0) in
    let more : row_over row step ≡ map (over len) rest =
    still_from row rest (suc k) len step (omega (arith, same)) (λ p inside. subst (λ n. Stays len n (get_or step p [])) (next_place k p) (still (suc p) (omega (arith, inside))))
    (λ p. subst (λ n. get_or row n None ≡ get_or rest p None) (next_place k p) (at (suc p))) in
    λ i. front i ∷ more i

no_place : (p : ℕ) → p ≡ 0 + p
no_place p = omega arith

pub still_row : (row : Row) (len : ℕ) (step : Step) → length row ≡ length step → AreStill len step → row_over row step ≡ map (over len) row
still_row row len step same still =
    still_from row row 0 len step same (λ p inside. subst (λ n. Stays len n (get_or step p [])) (no_place p) (still p inside)) (λ p. ap (λ n. get_or row n None) (sym (no_place p)))
