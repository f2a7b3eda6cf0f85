-- Attributes with distinct names, gone through in order.
use Rattle.std.proofs.Common.{◌≡◌, ℕ, zero, suc, ◌+◌, Bool, true, false, not, List, [], ◌∷◌, ◌++◌, take, slice_get, bytes_eq, Some, if◌then◌else◌, ap, ◌∙◌, refl}
use Rattle.std.proofs.lemmas.Bool.{and_parts}
use Rattle.std.proofs.lemmas.List.{take_more}
use Rattle.std.proofs.lemmas.Option.{slice_get_within, get_or_from_slice_get}
use Rattle.std.proofs.lemmas.Slice.Eq.{bytes_eq-Decides}
use Rattle.std.specs.Cmp.Lexicographic.{nat_list_eq_equiv}
use Rattle.hm_base.specs.Walks.{Attribute, has_name, has_distinct_names}

-- one more element of a prefix
pub take_push : {X : Type 0} (xs : List X) (i : ℕ) (x : X) → slice_get xs i ≡ Some x → take (i + 1) xs ≡ take i xs ++ x ∷ []
take_push xs i x at = take_more xs i x (slice_get_within xs i x at) ∙ ap (λ y. take i xs ++ y ∷ []) (get_or_from_slice_get xs i x x at)

other_name : (n m : List ℕ) (b : Bool) → bytes_eq n m ≡ b → bytes_eq m n ≡ false → b ≡ false
other_name n m true is h =
    let same : n ≡ m = (bytes_eq-Decides n m).0 is in
    let again : bytes_eq m n ≡ true = rw same (nat_list_eq_equiv.refl m) in
    absurd (cc)
other_name n m false is h = refl

not_true : (b : Bool) → not b ≡ true → b ≡ false
not_true true h = absurd (cc)
not_true false h = refl

-- a name that none of the attributes has is that of none of them
first_otherwise : (r : Bool) (has : Bool) → (if r then true else has) ≡ false → (r ≡ false) × (has ≡ false)
first_otherwise true has h = absurd (cc)
first_otherwise false has h = (refl, h)

named_otherwise : (n : List ℕ) (attributes : List Attribute) (i : ℕ) (a : Attribute) → has_name n attributes ≡ false → slice_get attributes i ≡ Some a → bytes_eq a.name n ≡ false
named_otherwise n [] i a h at = absurd (cc)
named_otherwise n (b ∷ attributes) zero a h at =
    let same : b ≡ a = cc in
    rw (← same) ((first_otherwise (bytes_eq b.name n) (has_name n attributes) h).0)
named_otherwise n (b ∷ attributes) (suc i) a h at = named_otherwise n attributes i a ((first_otherwise (bytes_eq b.name n) (has_name n attributes) h).1) at

-- a name isn't among those before it
pub new_name : (attributes : List Attribute) (i : ℕ) (a : Attribute) → has_distinct_names attributes ≡ true → slice_get attributes i ≡ Some a → has_name a.name (take i attributes) ≡ false
new_name [] i a h at = absurd (cc)
new_name (b ∷ attributes) zero a h at = refl
new_name (b ∷ attributes) (suc i) a h at =
    let parts = and_parts (not (has_name b.name attributes)) (has_distinct_names attributes) h in
    let other : bytes_eq b.name a.name ≡ false = other_name b.name a.name (bytes_eq b.name a.name) refl (named_otherwise b.name attributes i a (not_true (has_name b.name attributes) parts.0) at) in
    rw (other) (new_name attributes i a parts.1 at)
