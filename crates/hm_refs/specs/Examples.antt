-- The definitions on examples.
use Rattle.std.specs.Prelude.{◌≡◌, ℕ, true, false, List, [], ◌∷◌, Some, None, codes, refl}
use Rattle.hm_base.specs.Bytes.{is_digit_of, is_letter, is_alnum}
use Rattle.hm_refs.specs.Names.{Entry, longest, found_here}
use Rattle.hm_refs.specs.Numbers.{point_of, best_number}
use Rattle.hm_refs.specs.References.{reference, value_of, is_blocked}
use Rattle.hm_refs.specs.Plain.{is_plain_byte, allows, is_plain}

abbrev pub seven : List Entry
seven =
    record { name = codes "&amp"; points = 38 ∷ [] } ∷ record { name = codes "&amp;"; points = 38 ∷ [] }
    ∷ record { name = codes "&lt"; points = 60 ∷ [] } ∷ record { name = codes "&lt;"; points = 60 ∷ [] }
    ∷ record { name = codes "&not"; points = 172 ∷ [] } ∷ record { name = codes "&not;"; points = 172 ∷ [] }
    ∷ record { name = codes "&notin;"; points = 8713 ∷ [] } ∷ []

pub longest_is_not : longest seven (codes "&notit;") ≡ Some (record { name = codes "&not"; points = 172 ∷ []; rest = codes "it;" })
unfolding found_here
longest_is_not = refl

pub longest_is_notin : longest seven (codes "&notin;x") ≡ Some (record { name = codes "&notin;"; points = 8713 ∷ []; rest = codes "x" })
unfolding found_here
longest_is_notin = refl

pub none_is_longest : longest seven (codes "&no") ≡ None
unfolding found_here
none_is_longest = refl

pub named_in_text : reference seven false (codes "&notit;") ≡ Some (record { points = 172 ∷ []; len = 4 })
unfolding reference found_here is_blocked
named_in_text = refl

pub blocked_in_value : reference seven true (codes "&notit;") ≡ None
unfolding reference found_here is_blocked is_alnum is_letter
blocked_in_value = refl

pub blocked_by_equals : reference seven true (codes "&amp=") ≡ None
unfolding reference found_here is_blocked
blocked_by_equals = refl

pub closed_in_value : reference seven true (codes "&amp;=") ≡ Some (record { points = 38 ∷ []; len = 5 })
unfolding reference found_here is_blocked
closed_in_value = refl

pub decimal_with_zeros : reference [] true (codes "&#0097;x") ≡ Some (record { points = 97 ∷ []; len = 7 })
unfolding reference value_of point_of is_digit_of
decimal_with_zeros = refl

pub hexadecimal_to_its_end : reference [] false (codes "&#X61gg") ≡ Some (record { points = 97 ∷ []; len = 5 })
unfolding reference value_of point_of is_digit_of
hexadecimal_to_its_end = refl

pub replaced_number : reference [] false (codes "&#x80;") ≡ Some (record { points = 0x20AC ∷ []; len = 6 })
unfolding reference value_of point_of is_digit_of
replaced_number = refl

pub no_digits : reference [] false (codes "&#;") ≡ None
unfolding reference is_digit_of
no_digits = refl

pub no_hexadecimal_digits : reference [] false (codes "&#xg") ≡ None
unfolding reference is_digit_of
no_hexadecimal_digits = refl

pub too_large : point_of 0x110000 ≡ 0xFFFD
unfolding point_of
too_large = refl

pub surrogate : point_of 0xD800 ≡ 0xFFFD
unfolding point_of
surrogate = refl

pub best_of_euro : best_number 0x20AC ≡ Some 0x80
unfolding best_number
best_of_euro = refl

pub none_for_control : best_number 0x80 ≡ None
unfolding best_number point_of
none_for_control = refl

abbrev pub one_name : List ℕ → List ℕ → List Entry
one_name n ps = record { name = n; points = ps } ∷ []

pub plain_letter : is_plain seven 97 ≡ true
unfolding is_plain_byte allows
plain_letter = refl

pub space_needs_care : is_plain [] 32 ≡ false
unfolding is_plain_byte
space_needs_care = refl

pub equals_needs_care : is_plain [] 61 ≡ false
unfolding is_plain_byte
equals_needs_care = refl

pub short_name : is_plain (one_name (codes "&aa") (97 ∷ [])) 97 ≡ false
unfolding is_plain_byte allows
short_name = refl

pub long_name : is_plain (one_name (codes "&aa;") (97 ∷ [])) 97 ≡ true
unfolding is_plain_byte allows
long_name = refl

pub pair_name : is_plain (one_name (codes "&fjlig;") (102 ∷ 106 ∷ [])) 102 ≡ false
unfolding is_plain_byte allows
pair_name = refl

pub second_of_pair : is_plain (one_name (codes "&fjlig;") (102 ∷ 106 ∷ [])) 106 ≡ true
unfolding is_plain_byte allows
second_of_pair = refl
