-- The definitions on examples.
use Rattle.std.specs.Prelude.{◌≡◌, true, false, List, [], ◌∷◌, codes, refl}
use Rattle.hm_base.specs.Bytes.{is_letter, is_digit_of}
use Rattle.hm_refs.specs.Names.{Entry, found_here}
use Rattle.hm_refs.specs.Numbers.{point_of}
use Rattle.hm_refs.specs.References.{reference, value_of, is_blocked}
use Rattle.hm_tree.specs.Tokens.{taken, slice, points}
use Rattle.hm_scan.specs.Texts.{read_text, begins_markup, reference_in}

abbrev pub copy : List Entry
copy = record { name = codes "&copy"; points = 169 ∷ [] } ∷ record { name = codes "&copy;"; points = 169 ∷ [] } ∷ []

a_reference : read_text copy false (codes "&copy=") ≡ taken (points (169 ∷ [])) (codes "=")
unfolding read_text reference_in reference found_here is_blocked
a_reference = refl

a_number : read_text copy false (codes "&#x80;") ≡ taken (points (0x20AC ∷ [])) []
unfolding read_text reference_in reference value_of point_of is_digit_of
a_number = refl

no_number : read_text copy false (codes "&#;") ≡ taken (slice (codes "&#;")) []
unfolding read_text reference_in reference found_here is_digit_of begins_markup
no_number = refl

up_to_markup : read_text copy false (codes "a<1</>b") ≡ taken (slice (codes "a<1")) (codes "</>b")
unfolding read_text reference_in begins_markup is_letter
up_to_markup = refl

in_title : read_text copy true (codes "a<b>&copy;") ≡ taken (slice (codes "a<b>")) (codes "&copy;")
unfolding read_text reference_in reference found_here is_blocked
in_title = refl

last_slash : read_text copy false (codes "</") ≡ taken (slice (codes "</")) []
unfolding read_text reference_in begins_markup is_letter
last_slash = refl
