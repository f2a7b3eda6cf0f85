-- Elements of joined lists.
use Rattle.std.proofs.Common.{◌≡◌, List, [], ◌∷◌, ◌++◌, refl, inl, inr, ◌⊎◌}
use Rattle.hm_refs.specs.Tables.{IsIn, first, later}

more_in : {A : Type 0} (e y : A) (xs ys : List A) → IsIn e xs ⊎ IsIn e ys → IsIn e (y ∷ xs) ⊎ IsIn e ys
more_in e y xs ys (inl j) = inl (later y xs j)
more_in e y xs ys (inr j) = inr j

pub in_append : {A : Type 0} (e : A) (xs ys : List A) → IsIn e (xs ++ ys) → IsIn e xs ⊎ IsIn e ys
in_append e [] ys i = inr i
in_append e (x ∷ xs) ys (first zs) = inl (first xs)
in_append e (x ∷ xs) ys (later y zs i) = more_in e x xs ys (in_append e xs ys i)

pub only : {A : Type 0} (e x : A) → IsIn e (x ∷ []) → e ≡ x
only e x (first zs) = refl
only e x (later y zs i) = elim i [ ]

pub in_left : {A : Type 0} (e : A) (xs ys : List A) → IsIn e xs → IsIn e (xs ++ ys)
in_left e xs ys (first zs) = first (zs ++ ys)
in_left e xs ys (later y zs i) = later y (zs ++ ys) (in_left e zs ys i)

pub in_right : {A : Type 0} (e : A) (xs ys : List A) → IsIn e ys → IsIn e (xs ++ ys)
in_right e [] ys i = i
in_right e (x ∷ xs) ys i = later x (xs ++ ys) (in_right e xs ys i)
