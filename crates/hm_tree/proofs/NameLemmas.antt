-- Tables of the names of attributes: what an insertion adds.
use Rattle.std.proofs.Common.{◌≡◌, ℕ, Bool, true, false, cond, List, [], ◌∷◌, ◌++◌, bytes_eq, string_bytes, refl, sym, ap, ◌∙◌}
use Rattle.std.specs.HashSet.{HashSet, Updates, IsEmpty}
use Rattle.std.specs.String.{string_eq}
use Rattle.std.specs.declared.string.String.{String}
use Rattle.std.specs.declared.alloc.Global.{Global}
use Rattle.std.proofs.lemmas.Map.Text.{hash_set_updates_text}
use Rattle.hm_base.specs.Walks.{Attribute, has_name}
use Rattle.hm_tree.specs.Names.{HasNames}

-- one more attribute has its name, and those before it have theirs
pub has_name-push : (n : List ℕ) (attributes : List Attribute) (a : Attribute) → has_name n (attributes ++ a ∷ []) ≡ cond (bytes_eq a.name n) true (has_name n attributes)
has_name-push n [] a = refl
has_name-push n (b ∷ attributes) a = ap (λ t. cond (bytes_eq b.name n) true t) (has_name-push n attributes a) ∙ either (bytes_eq b.name n) (bytes_eq a.name n) (has_name n attributes)
  where
    either : (s t u : Bool) → cond s true (cond t true u) ≡ cond t true (cond s true u)
    either true true u = refl
    either true false u = refl
    either false t u = refl

pub HasNames-none : {S : Type 0} (names : HashSet (String Global) S) → IsEmpty names → HasNames names []
HasNames-none names none n = rw none refl

pub HasNames-push : {S : Type 0} (old new : HashSet (String Global) S) (s : String Global) (attributes : List Attribute) (a : Attribute) → a.name ≡ string_bytes s → Updates string_eq old new s true → HasNames old attributes → HasNames new (attributes ++ a ∷ [])
HasNames-push old new s attributes a named u had n =
    hash_set_updates_text (string_bytes s) old new true u n
    ∙ rw (had n) (ap (λ name. cond (bytes_eq name n) true (has_name n attributes)) (sym named) ∙ sym (has_name-push n attributes a))
