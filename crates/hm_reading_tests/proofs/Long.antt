-- One more attribute, or none.
use Rattle.std.proofs.Common.{◌≡◌, ◌+◌, ◌≤◌, Bool, true, false, if◌then◌else◌, List, [], ◌∷◌, ◌++◌, length, arith}
use Rattle.hm_base.specs.Walks.{Attribute, attributes_size}

size_push : (xs : List Attribute) (a : Attribute) → attributes_size (xs ++ a ∷ []) ≡ attributes_size xs + (length a.name + length a.value)
size_push [] a = omega arith
size_push (x ∷ xs) a = omega (arith, size_push xs a)

pub size_added : (b : Bool) (xs : List Attribute) (a : Attribute) → attributes_size (if b then xs ++ a ∷ [] else xs) ≤ attributes_size xs + (length a.name + length a.value)
size_added true xs a = omega (arith, size_push xs a)
size_added false xs a = omega arith
