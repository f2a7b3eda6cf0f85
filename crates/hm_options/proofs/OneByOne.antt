-- Attributes that are changed or left out one by one.
use Rattle.std.proofs.Common.{◌≡◌, ℕ, ◌+◌, ◌≤◌, Bool, true, false, List, [], ◌∷◌, ◌++◌, length, take, slice_get, flat_map, bytes_eq, Some, if◌then◌else◌, sym, ◌∙◌, refl, arith, length-append}
use Rattle.std.proofs.lemmas.Grind.{flat_map-append}
use Rattle.std.proofs.lemmas.List.{append-nil}
use Rattle.hm_base.specs.Walks.{Attribute, has_name}
use Rattle.hm_options.proofs.Distinct.{take_push}

has_first : (n m : List ℕ) (b : Bool) (a : Attribute) (rest : List Attribute) → a.name ≡ m → bytes_eq m n ≡ false → has_name n rest ≡ false → has_name n ((if b then [] else a ∷ []) ++ rest) ≡ false
has_first n m true a rest is other h = h
has_first n m false a rest is other h = rw (is, other) h

first_otherwise : (r : Bool) (has : Bool) → (if r then true else has) ≡ false → (r ≡ false) × (has ≡ false)
first_otherwise true has h = absurd (cc)
first_otherwise false has h = (refl, h)

one_most : (b : Bool) (a : Attribute) → length (if b then [] else a ∷ []) ≤ 1
one_most true a = omega arith
one_most false a = omega arith

-- the attributes of which some are dropped, and the others have a value
module _ (dropped : Attribute → Bool) (valued : Attribute → Attribute) where
  abbrev pub each : Attribute → List Attribute
  each a = if dropped a then [] else valued a ∷ []

  pub each_count : (attributes : List Attribute) → length (flat_map each attributes) ≤ length attributes
  each_count [] = omega arith
  each_count (a ∷ attributes) = omega (arith, each_count attributes, one_most (dropped a) (valued a), length-append (each a) (flat_map each attributes))

  -- one more
  pub each_more : (attributes made : List Attribute) (i : ℕ) (a : Attribute) → slice_get attributes i ≡ Some a → made ≡ flat_map each (take i attributes) ++ each a → made ≡ flat_map each (take (i + 1) attributes)
  each_more attributes made i a at is =
      is ∙ sym (rw (take_push attributes i a at, flat_map-append each (take i attributes) (a ∷ []), append-nil) refl)

  module _ (named : (a : Attribute) → (valued a).name ≡ a.name) where
    -- a name that none has is none of those that are left
    pub each_fresh : (name : List ℕ) (attributes : List Attribute) → has_name name attributes ≡ false → has_name name (flat_map each attributes) ≡ false
    each_fresh name [] h = refl
    each_fresh name (a ∷ attributes) h =
        let parts = first_otherwise (bytes_eq a.name name) (has_name name attributes) h in
        has_first name a.name (dropped a) (valued a) (flat_map each attributes) (named a) parts.0 (each_fresh name attributes parts.1)
