-- Over equal steps over which no state changes its place.
use Rattle.std.proofs.Common.{◌≡◌, ◌==◌, ◌∙◌, ℕ, zero, suc, ◌+◌, ◌-◌, ◌*◌, ◌<◌, ◌≤◌, ◌^◌, not, ◌&&◌, Bool, true, false, cond, List, [], ◌∷◌, ◌++◌, length, map, get_or, drop, reverse, refl, sym, ap, subst, arith, append-nil, append_assoc, ⊎_elim}
use Rattle.std.proofs.lemmas.Bool.{cases_lt, false_from_ne_true}
use Rattle.std.proofs.lemmas.Bool.Decides.{Decides-eqb}
use Rattle.std.proofs.lemmas.List.{length-map}
use Rattle.std.proofs.lemmas.Nat.{mul-lt}
use Rattle.std.proofs.Math.Nat.{mul-le-mul_right}
use Rattle.hm_cert.specs.Certificate.{row_line}
use Rattle.hm_cert.specs.Rows.{AreBelow, IsBelow}
use Rattle.std.specs.Prelude.{Option, Some, None}
use Rattle.hm_base.specs.declared.plain.Format.{Format}
use Rattle.hm_graph_laws.specs.Layers.{is_single}
use Rattle.hm_graph_laws.specs.Prices.{Row}
use Rattle.hm_graph_laws.specs.Ways.{over}
use Rattle.hm_graph.specs.Graphs.{GraphView}
use Rattle.hm_graph.specs.Prices.{is_left_out, row_over}
use Rattle.hm_graph.specs.Steps.{Step, is_forced, leaves_out}
use Rattle.hm_graph.specs.Ways.{step_choices}
use Rattle.hm_graph.proofs.StepsStill.{each_more, each_none, still_row}
use Rattle.hm_shortest.specs.Plans.{IsBack, raised_lines}
use Rattle.hm_graph.specs.Still.{AreStill, Stays}
use Rattle.hm_graph.specs.declared.hops.Hop.{Hop}
use Rattle.hm_shortest.proofs.FirstWay.{forced_none}
use Rattle.hm_shortest.proofs.FromLast.{back_more, step_cut}

-- whether a format leaves a layer out that isn't the first one
left_out_later : (format : Format) (k : ℕ) (step : Step) (b : Bool) → (k ≡ 0 → ⊥) → leaves_out format step ≡ b → is_left_out format k step ≡ b
left_out_later format k step b other left = λ i. not (false_from_ne_true (k == 0) (λ t. other ((Decides-eqb k 0).0 t)) i) && left i

-- ---- Over many

-- one more line, where lines are written
raised_more : (b : Bool) (n len : ℕ) (text : List ℕ) (row front : Row) → front ≡ map (over (suc n * len)) row
    → text ++ cond b [] (raised_lines (suc n) len row) ≡ (text ++ cond b [] (raised_lines n len row)) ++ cond b [] (reverse (row_line front))
raised_more true n len text row front is = sym (append-nil (text ++ []))
raised_more false n len text row front is = ap (λ r. text ++ (raised_lines n len row ++ reverse (row_line r))) (sym is) ∙ sym (append_assoc text (raised_lines n len row) (reverse (row_line front)))

none_raised : (b : Bool) (len : ℕ) (text : List ℕ) (row : Row) → text ++ cond b [] (raised_lines 0 len row) ≡ text
none_raised true len text row = append-nil text
none_raised false len text row = append-nil text

-- from layer k on over n more, which have a step over which no state changes its place
back_along : (g : GraphView) (k n : ℕ) (step : Step) (len : ℕ) (text choices : List ℕ) (row : Row) (b : Bool) → AreStill len step → is_forced step ≡ true → leaves_out g.source.format step ≡ b → length row ≡ length step → n < k → k ≤ length g.steps
    → ((j : ℕ) → k - n ≤ j → j < k → get_or g.steps j [] ≡ step) → IsBack g k text choices row → IsBack g (k - n) (text ++ cond b [] (raised_lines n len row)) choices (map (over (n * len)) row)
back_along g k zero step len text choices row b still forced left same some inside are found =
    let here : k ≡ k - 0 = omega arith in
    let none : 0 ≡ 0 * len = omega arith in
    let prices : row ≡ map (over (0 * len)) row = each_none row ∙ ap (λ m. map (over m) row) none in
    subst (λ A. A) (λ i. IsBack g (here i) (sym (none_raised b len text row) i) choices (prices i)) found
back_along g k (suc n) step len text choices row b still forced left same some inside are found =
    let next_row : Row = map (over (n * len)) row in
    let written : List ℕ = text ++ cond b [] (raised_lines n len row) in
    let more : List ℕ = text ++ cond b [] (raised_lines (suc n) len row) in
    let before : IsBack g (k - n) written choices next_row = back_along g k n step len text choices row b still forced left same (omega arith) inside (λ j low high. are j (omega (arith, low)) high) found in
    let next : k - n - 1 ≡ k - suc n = omega arith in
    let cut : drop (k - n - 1) g.steps ≡ step ∷ drop (k - n) g.steps = step_cut g.steps (k - n) step (omega arith) (omega arith) (sym (are (k - n - 1) (omega arith) (omega arith))) in
    let out : is_left_out g.source.format (k - n - 1) step ≡ b = left_out_later g.source.format (k - n - 1) step b (λ none. omega (arith, none)) left in
    let front : map (over (suc n * len)) row ≡ row_over next_row step = each_more n len row ∙ sym (still_row next_row len step (length-map row (over (n * len)) ∙ same) still) in
    let lines : more ≡ written ++ cond (is_left_out g.source.format (k - n - 1) step) [] (reverse (row_line (row_over next_row step))) =
    raised_more b n len text row (row_over next_row step) (sym front) ∙ ap (λ b. written ++ cond b [] (reverse (row_line (row_over next_row step)))) (sym out) in
    let chosen : choices ≡ choices ++ step_choices next_row step = sym (ap (λ x. choices ++ x) (forced_none next_row step forced) ∙ append-nil choices) in
    subst (λ j. IsBack g j more choices (map (over (suc n * len)) row)) next
    (back_more g (k - n) step written more choices choices next_row (map (over (suc n * len)) row) (omega arith) cut before lines chosen front)

-- over the step after layer k and those before it that are equal
pub along_found : (g : GraphView) (k front n len : ℕ) (text more choices chosen : List ℕ) (row after : Row) (b : Bool) → AreStill len (get_or g.steps k []) → is_forced (get_or g.steps k []) ≡ true → leaves_out g.source.format (get_or g.steps k []) ≡ b
    → length row ≡ length (get_or g.steps k []) → k < length g.steps → front ≤ k → 0 < front → n ≡ k - front + 1 → ((j : ℕ) → front ≤ j → j < k → get_or g.steps j [] ≡ get_or g.steps k []) → IsBack g (k + 1) text choices row
    → more ≡ text ++ cond b [] (raised_lines n len row) → chosen ≡ choices → after ≡ map (over (n * len)) row → IsBack g front more chosen after
along_found g k front n len text more choices chosen row after b still forced left same inside low some count are found t c r =
    let step : Step = get_or g.steps k [] in
    let end : k + 1 - n ≡ front = omega (arith, count) in
    let each : (j : ℕ) → k + 1 - n ≤ j → j < k + 1 → get_or g.steps j [] ≡ step = λ j l high. ⊎_elim (λ before. are j (omega (arith, l, end)) before) (λ last. let here : j ≡ k = omega arith in ap (λ i. get_or g.steps i []) here) (cases_lt j k) in
    let all : IsBack g (k + 1 - n) (text ++ cond b [] (raised_lines n len row)) choices (map (over (n * len)) row) =
    back_along g (k + 1) n step len text choices row b still forced left same (omega (arith, count)) (omega arith) each found in
    subst (λ A. A) (λ i. IsBack g (end i) (sym t i) (sym c i) (sym r i)) all

-- a step over which no state changes its place has nothing to choose
one_single : (hops : List Hop) (len place : ℕ) → Stays len place hops → is_single hops ≡ true
one_single [] len place h = absurd h
one_single (x ∷ []) len place h = refl
one_single (x ∷ y ∷ hops) len place h = absurd h

forced_from : (k len : ℕ) (step : Step) → ((p : ℕ) → p < length step → Stays len (k + p) (get_or step p [])) → is_forced step ≡ true
forced_from k len [] still = refl
forced_from k len (hops ∷ step) still =
    let next : (p : ℕ) → k + suc p ≡ suc k + p = λ p. omega arith in
    let front : is_single hops ≡ true = one_single hops len (k + 0) (still 0 (omega arith)) in
    let more : is_forced step ≡ true = forced_from (suc k) len step (λ p inside. subst (λ n. Stays len n (get_or step p [])) (next p) (still (suc p) (omega (arith, inside)))) in
    λ i. front i && more i

pub still_forced : (len : ℕ) (step : Step) → AreStill len step → is_forced step ≡ true
still_forced len step still = let here : (p : ℕ) → p ≡ 0 + p = λ p. omega arith in forced_from 0 len step (λ p inside. subst (λ n. Stays len n (get_or step p [])) (here p) (still p inside))

pub along_low : (n len : ℕ) → n < 2 ^ 29 → len < 2 ^ 33 → n * len < 2 ^ 62
along_low n len few low = let all : n * len < 2 ^ 29 * 2 ^ 33 = mul-lt n len (2 ^ 29) (2 ^ 33) few low in all

-- ---- Rows with more

over_at_most : (bound most n : ℕ) (price : Option ℕ) → bound + n ≤ most → IsBelow bound price → IsBelow most (over n price)
over_at_most bound most n None l h = tt
over_at_most bound most n (Some q) l h = omega arith

pub raised_below : (bound most n : ℕ) (row : Row) → bound + n ≤ most → AreBelow bound row → AreBelow most (map (over n) row)
raised_below bound most n [] l h = tt
raised_below bound most n (price ∷ row) l h = (over_at_most bound most n price l h.0, raised_below bound most n row l h.1)

-- over one more layer
pub one_alike : (n len : ℕ) (start text more : List ℕ) (row next_row front : Row) → text ≡ start ++ raised_lines n len row → next_row ≡ map (over (n * len)) row → front ≡ map (over len) next_row → more ≡ text ++ reverse (row_line front)
    → (more ≡ start ++ raised_lines (suc n) len row) × (front ≡ map (over (suc n * len)) row)
one_alike n len start text more row next_row front t b f m =
    let is : front ≡ map (over (suc n * len)) row = f ∙ ap (map (over len)) b ∙ sym (each_more n len row) in
    (m ∙ (λ i. t i ++ reverse (row_line (is i))) ∙ append_assoc start (raised_lines n len row) (reverse (row_line (map (over (suc n * len)) row))), is)

pub few_more : (n count len : ℕ) → n < count → count * len < 2 ^ 62 → n * len < 2 ^ 62
few_more n count len h low = let least : n * len ≤ count * len = mul-le-mul_right {m = n} {n = count} len (omega (arith, h)) in omega (arith, least, low)
