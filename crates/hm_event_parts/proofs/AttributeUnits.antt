-- The units of attributes, one after the other.
use Rattle.std.proofs.Common.{◌≡◌, ℕ, ◌+◌, List, [], ◌∷◌, ◌++◌, take, slice_get, Some, sym, ap, ◌∙◌, refl, append_assoc, append-nil}
use Rattle.std.proofs.lemmas.List.{take_more}
use Rattle.std.proofs.lemmas.Option.{slice_get_within, get_or_from_slice_get}
use Rattle.hm_base.specs.Walks.{Attribute}
use Rattle.hm_graph_laws.specs.Units.{attribute_units}

pub first_alone : (a : Attribute) (attributes : List Attribute) → attribute_units (a ∷ attributes) ≡ attribute_units (a ∷ []) ++ attribute_units attributes
first_alone a attributes = rw append-nil refl

units_more : (attributes : List Attribute) (a : Attribute) → attribute_units (attributes ++ a ∷ []) ≡ attribute_units attributes ++ attribute_units (a ∷ [])
units_more [] a = refl
units_more (b ∷ attributes) a =
    first_alone b (attributes ++ a ∷ []) ∙ ap (λ us. attribute_units (b ∷ []) ++ us) (units_more attributes a) ∙ sym (append_assoc (attribute_units (b ∷ [])) (attribute_units attributes) (attribute_units (a ∷ [])))
    ∙ ap (λ us. us ++ attribute_units (a ∷ [])) (sym (first_alone b attributes))

pub one_more : (attributes : List Attribute) (i : ℕ) (a : Attribute) → slice_get attributes i ≡ Some a → attribute_units (take i attributes) ++ attribute_units (a ∷ []) ≡ attribute_units (take (i + 1) attributes)
one_more attributes i a at = sym (rw (take_more attributes i a (slice_get_within attributes i a at), get_or_from_slice_get attributes i a a at) (units_more (take i attributes) a))
