-- Names of attributes.
use Rattle.std.proofs.Common.{◌≡◌, ℕ, Bool, true, false, not, cond, ◌||◌, List, [], ◌∷◌, ◌++◌, bytes_eq, ◌∙◌, refl}
use Rattle.std.specs.Cmp.Lexicographic.{nat_list_eq_equiv}
use Rattle.std.proofs.lemmas.Bool.{and_parts, not-true}
use Rattle.hm_base.specs.Walks.{Attribute, has_name, has_distinct_names}

neither : (b r : Bool) → cond b true r ≡ false → (b ≡ false) × (r ≡ false)
neither true r h = absurd (cc)
neither false r h = (refl, h)

-- one more name is found by itself
pub has_name-more : (n : List ℕ) (attributes : List Attribute) (a : Attribute) → has_name n (attributes ++ a ∷ []) ≡ (has_name n attributes || bytes_eq a.name n)
has_name-more n [] a = last (bytes_eq a.name n)
  where
    last : (b : Bool) → cond b true false ≡ (false || b)
    last true = refl
    last false = refl
has_name-more n (b ∷ attributes) a = rw (has_name-more n attributes a) (first (bytes_eq b.name n))
  where
    first : (t : Bool) → cond t true (has_name n attributes || bytes_eq a.name n) ≡ (cond t true (has_name n attributes) || bytes_eq a.name n)
    first true = refl
    first false = refl

has_name-push : (n : List ℕ) (attributes : List Attribute) (a : Attribute) → has_name n attributes ≡ false → bytes_eq a.name n ≡ false → has_name n (attributes ++ a ∷ []) ≡ false
has_name-push n attributes a h apart = rw (has_name-more n attributes a, h, apart) refl

-- names stay distinct where a new one is appended to them
pub has_distinct_names-push : (attributes : List Attribute) (a : Attribute) → has_distinct_names attributes ≡ true → has_name a.name attributes ≡ false → has_distinct_names (attributes ++ a ∷ []) ≡ true
has_distinct_names-push [] a distinct new = refl
has_distinct_names-push (b ∷ attributes) a distinct new =
    let parts = and_parts (not (has_name b.name attributes)) (has_distinct_names attributes) distinct in
    let other = neither (bytes_eq b.name a.name) (has_name a.name attributes) new in
    let apart : bytes_eq a.name b.name ≡ false = nat_list_eq_equiv.symm a.name b.name ∙ other.0 in
    rw (has_name-push b.name attributes a (not-true (has_name b.name attributes) parts.0) apart) (has_distinct_names-push attributes a parts.1 other.1)
