-- The two pieces outside of sections, by their bytes.
use Rattle.std.specs.Prelude.{◌≡◌, ℕ, true, List, ◌∷◌, ◌++◌, length, Some, encode_utf8}
use Rattle.hm_refs.specs.Names.{Entry}
use Rattle.hm_refs.specs.References.{reference}
use Rattle.hm_spelling_spec.specs.Characters.{CharacterRules, Spot, is_value, may_stand, stays}

-- c as itself
pub record Itself (t : List Entry) (rules : CharacterRules) (spot : Spot) (c : ℕ) (piece after : List ℕ) : Type 0 where
  pub bytes : piece ≡ encode_utf8 c
  pub stands : may_stand rules.ascii spot c ≡ true
  pub is_kept : stays t spot c after ≡ true

-- a reference that gives these code points
pub record Refers (t : List Entry) (spot : Spot) (points piece after : List ℕ) : Type 0 where
  pub inner : List ℕ
  pub bytes : piece ≡ 38 ∷ inner
  pub found : reference t (is_value spot) (piece ++ after) ≡ Some (record { points = points; len = length piece })
