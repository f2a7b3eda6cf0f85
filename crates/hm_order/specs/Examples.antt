-- What attributes cost, and tags in order, on examples without names of references.
use Rattle.std.specs.Prelude.{◌≡◌, ℕ, Bool, true, false, List, [], ◌∷◌, Some, codes, refl}
use Rattle.std.specs.Fmt.{digits}
use Rattle.std.specs.Str.{chars}
use lib.Utf8.{encode}
use Rattle.hm_base.specs.Bytes.{is_digit_of, is_space}
use Rattle.hm_base.specs.Walks.{Attribute}
use Rattle.hm_base.specs.declared.plain.SpellRules.{SpellRules}
use Rattle.hm_graph_laws.specs.CharacterEdges.{as_itself}
use Rattle.hm_graph_laws.specs.ExchangeLaws.{sparing_plain}
use Rattle.hm_refs.specs.Numbers.{best_number, point_of}
use Rattle.hm_refs.specs.Plain.{allows, is_plain_byte}
use Rattle.hm_spelling_spec.specs.Characters.{is_barred, is_writable, may_stand}
use Rattle.hm_spelling_spec.specs.Tags.{Spelling}
use Rattle.hm_order.specs.Costs.{inner_cost, last_cost}
use Rattle.hm_order.specs.Orders.{ordered}

-- values may stand without quotes; attributes may touch or not
abbrev rules : Bool → SpellRules
rules tight = record { omit = true; unquote = true; tight = tight; ascii = false; frame = false }

abbrev usual : Bool → Spelling
usual tight = sparing_plain [] (rules tight)

abbrev attribute : List ℕ → List ℕ → Attribute
attribute n v = record { name = n; value = v }

-- `c=z` with a space after it
pub inner_of_letter : inner_cost (usual true) (attribute (codes "c") (codes "z")) ≡ Some 4
unfolding as_itself may_stand is_writable is_barred is_space is_digit_of is_plain_byte allows best_number point_of chars digits encode
inner_of_letter = refl

-- `c=z`, which ends where the tag ends
pub last_of_letter : last_cost (usual true) false (attribute (codes "c") (codes "z")) ≡ Some 3
unfolding as_itself may_stand is_writable is_barred is_space is_digit_of is_plain_byte allows best_number point_of chars digits encode
last_of_letter = refl

-- `c=z` with a space before the '/' that closes the tag
pub last_before_slash : last_cost (usual true) true (attribute (codes "c") (codes "z")) ≡ Some 4
unfolding as_itself may_stand is_writable is_barred is_space is_digit_of is_plain_byte allows best_number point_of chars digits encode
last_before_slash = refl

-- `b="x y"`, which the next attribute may touch
pub inner_of_quoted : inner_cost (usual true) (attribute (codes "b") (codes "x y")) ≡ Some 7
unfolding as_itself may_stand is_writable is_barred is_space is_digit_of is_plain_byte allows best_number point_of chars digits encode
inner_of_quoted = refl

-- `b="x y"` and a space, where attributes may not touch
pub inner_of_quoted_apart : inner_cost (usual false) (attribute (codes "b") (codes "x y")) ≡ Some 8
unfolding as_itself may_stand is_writable is_barred is_space is_digit_of is_plain_byte allows best_number point_of chars digits encode
inner_of_quoted_apart = refl

-- `d`, which needs no space before a '/'
pub last_of_bare : last_cost (usual true) true (attribute (codes "d") (codes "")) ≡ Some 1
unfolding as_itself may_stand is_writable is_barred is_space is_digit_of is_plain_byte allows best_number point_of chars digits encode
last_of_bare = refl

-- a value without quotes saves a space as the last one, where attributes may touch
pub touching : ordered (usual true) false (attribute (codes "c") (codes "z") ∷ attribute (codes "b") (codes "x y") ∷ []) ≡ attribute (codes "b") (codes "x y") ∷ attribute (codes "c") (codes "z") ∷ []
unfolding as_itself may_stand is_writable is_barred is_space is_digit_of is_plain_byte allows best_number point_of chars digits encode
touching = refl

-- a value in quotes saves one before a '/'
pub before_slash : ordered (usual false) true (attribute (codes "id") (codes "a b") ∷ attribute (codes "d") (codes "M0") ∷ []) ≡ attribute (codes "d") (codes "M0") ∷ attribute (codes "id") (codes "a b") ∷ []
unfolding as_itself may_stand is_writable is_barred is_space is_digit_of is_plain_byte allows best_number point_of chars digits encode
before_slash = refl

-- where all save as much, the first one goes last
pub first_of_three : ordered (usual false) false (attribute (codes "x") (codes "1") ∷ attribute (codes "y") (codes "2") ∷ attribute (codes "z") (codes "3") ∷ []) ≡ attribute (codes "y") (codes "2") ∷ attribute (codes "z") (codes "3") ∷ attribute (codes "x") (codes "1") ∷ []
unfolding as_itself may_stand is_writable is_barred is_space is_digit_of is_plain_byte allows best_number point_of chars digits encode
first_of_three = refl

-- and so it does among values in quotes that touch
pub first_of_quoted : ordered (usual true) false (attribute (codes "a") (codes "x y") ∷ attribute (codes "b") (codes "x y") ∷ []) ≡ attribute (codes "b") (codes "x y") ∷ attribute (codes "a") (codes "x y") ∷ []
unfolding as_itself may_stand is_writable is_barred is_space is_digit_of is_plain_byte allows best_number point_of chars digits encode
first_of_quoted = refl

-- an attribute without a value goes last before a '/', where attributes may touch
pub bare_before_slash : ordered (usual true) true (attribute (codes "id") (codes "a b") ∷ attribute (codes "d") (codes "") ∷ attribute (codes "e") (codes "M0") ∷ []) ≡ attribute (codes "id") (codes "a b") ∷ attribute (codes "e") (codes "M0") ∷ attribute (codes "d") (codes "") ∷ []
unfolding as_itself may_stand is_writable is_barred is_space is_digit_of is_plain_byte allows best_number point_of chars digits encode
bare_before_slash = refl
