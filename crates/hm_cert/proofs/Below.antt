-- Rows of prices below a bound, and a length that is added to each price.
use Rattle.std.proofs.Common.{◌≡◌, ◌+◌, ◌<◌, ℕ, zero, suc, List, [], ◌∷◌, ◌++◌, get_or, length, take, drop, set, map, sym, ap, ◌∙◌, subst, arith}
use Rattle.std.specs.Prelude.{Option, None}
use Rattle.std.proofs.lemmas.List.{drop-drop, drop-set-lt, get_or-drop, get_or-map, map-append, take_more, take_more_set}
use Rattle.hm_cert.specs.Certificate.{Row}
use Rattle.hm_cert.specs.Layout.{told}
use Rattle.hm_cert.specs.Rows.{AreBelow, IsBelow}

pub below_in : (row : Row) (bound k : ℕ) → AreBelow bound row → IsBelow bound (get_or row k None)
below_in [] bound k h = tt
below_in (price ∷ row) bound zero h = h.0
below_in (price ∷ row) bound (suc k) h = below_in row bound k h.1

-- a price that is unchanged
stands : (row old : List ℕ) (i : ℕ) → drop i row ≡ drop i old → get_or row i 0 ≡ get_or old i 0
stands row old i same =
    let here : i + 0 ≡ i = omega arith in
    sym (get_or-drop i row 0 0 ∙ ap (λ n. get_or row n 0) here) ∙ ap (λ l. get_or l 0 0) same ∙ get_or-drop i old 0 0 ∙ ap (λ n. get_or old n 0) here

pub stands_below : (row old : List ℕ) (bound i : ℕ) → i < length old → drop i row ≡ drop i old → AreBelow bound (map told old) → IsBelow bound (told (get_or row i 0))
stands_below row old bound i inside same h =
    subst (IsBelow bound) (get_or-map told old i 0 None inside ∙ ap told (sym (stands row old i same))) (below_in (map told old) bound i h)

-- one more price was raised
pub one_raised : (row old : List ℕ) (i sum : ℕ) (f : Option ℕ → Option ℕ) → i < length row → i < length old → told sum ≡ f (told (get_or row i 0)) → map told (take i row) ≡ map f (map told (take i old)) → drop i row ≡ drop i old
    → map told (take (i + 1) (set row i sum)) ≡ map f (map told (take (i + 1) old))
one_raised row old i sum f inside within is done same =
    ap (map told) (take_more_set row i sum inside)
    ∙ map-append told (take i row) (sum ∷ [])
    ∙ (λ j. done j ++ (is ∙ ap (λ n. f (told n)) (stands row old i same)) j ∷ [])
    ∙ sym (ap (λ l. map f (map told l)) (take_more old i 0 within) ∙ ap (map f) (map-append told (take i old) (get_or old i 0 ∷ [])) ∙ map-append f (map told (take i old)) (told (get_or old i 0) ∷ []))

pub others_stand : (row old : List ℕ) (i sum : ℕ) → drop i row ≡ drop i old → drop (i + 1) (set row i sum) ≡ drop (i + 1) old
others_stand row old i sum same = drop-set-lt (i + 1) row i sum (omega arith) ∙ sym (drop-drop 1 i row) ∙ ap (drop 1) same ∙ drop-drop 1 i old
