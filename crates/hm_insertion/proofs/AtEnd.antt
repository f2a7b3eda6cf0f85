-- Whether nothing but html, body and at most one p is open.
use Rattle.std.proofs.Common.{◌≡◌, ℕ, suc, ◌==◌, Bool, true, false, not, ◌&&◌, List, [], ◌∷◌, length, take, reverse, bytes_eq, refl, arith}
use Rattle.std.proofs.lemmas.Bool.Decides.{nat_tests}
use Rattle.hm_base.specs.Walks.{Element}
use Rattle.hm_elements.specs.Names.{html, body, p}
use Rattle.hm_elements.specs.Paths.{html_element, current, is_in_svg}
use Rattle.hm_construction_laws.specs.Steps.{is_at_end}

abbrev pub Begins : List Element → Type 0
Begins path = take 2 (reverse path) ≡ html_element html ∷ html_element body ∷ []

and_turned : (a b : Bool) → a && not b ≡ (not b && a) && true
and_turned true true = refl
and_turned true false = refl
and_turned false true = refl
and_turned false false = refl

pub at_end_three : (path : List Element) → Begins path → length path ≡ 3 → bytes_eq (current path) p && not (is_in_svg path) ≡ is_at_end path
unfolding is_at_end
at_end_three [] begins len = absurd (omega arith)
at_end_three (x ∷ []) begins len = absurd (omega arith)
at_end_three (x ∷ y ∷ []) begins len = absurd (omega arith)
at_end_three (x ∷ y ∷ z ∷ []) begins len =
    let first : z ≡ html_element html = cc in
    let second : y ≡ html_element body = cc in
    rw (first, second) (and_turned (bytes_eq x.name p) x.foreign)
at_end_three (x ∷ y ∷ z ∷ u ∷ path) begins len = absurd (omega arith)

pub at_end_others : (path : List Element) → Begins path → (length path ≡ 3 → ⊥) → (length path == 2) ≡ is_at_end path
unfolding is_at_end
at_end_others [] begins other = refl
at_end_others (x ∷ []) begins other = refl
at_end_others (x ∷ y ∷ []) begins other =
    let first : y ≡ html_element html = cc in
    let second : x ≡ html_element body = cc in
    rw (first, second) refl
at_end_others (x ∷ y ∷ z ∷ []) begins other = absurd (other refl)
at_end_others (x ∷ y ∷ z ∷ u ∷ path) begins other = longer (length path)
  where
    longer : (n : ℕ) → (suc (suc (suc (suc n))) == 2) ≡ false
    longer n = grind (arith, nat_tests)
