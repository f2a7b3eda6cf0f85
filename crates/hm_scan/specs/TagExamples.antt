-- The definitions on examples.
use Rattle.std.specs.Prelude.{⊤, ◌≡◌, ℕ, true, false, List, [], ◌∷◌, codes, refl}
use lib.Utf8.{encode}
use Rattle.hm_base.specs.Bytes.{is_space, lower, is_letter, is_alnum, is_digit_of}
use Rattle.hm_base.specs.RawText.{is_name_end}
use Rattle.hm_base.specs.Forms.{is_small, is_tag_byte, is_tag_name}
use Rattle.hm_base.specs.Walks.{Attribute}
use Rattle.hm_refs.specs.Names.{found_here}
use Rattle.hm_refs.specs.Numbers.{point_of}
use Rattle.hm_refs.specs.References.{reference, value_of, is_blocked}
use Rattle.hm_refs.specs.Examples.{seven}
use Rattle.hm_tree.specs.Tokens.{taken, refused, start_tag, end_tag}
use Rattle.hm_tree.specs.declared.tokens.ScanFault.TheVariants as faults
use Rattle.hm_scan.specs.Values.{reference_at}
use Rattle.hm_scan.specs.Tags.{is_name_byte, is_later_byte, is_unquoted_byte, is_inside, is_quote, is_tag_end, attribute_at}
use Rattle.hm_scan.specs.Reading.{is_bad_byte, tag_fault, read_start, read_end, read_tag, begins_tag}

-- what an example unfolds to compute a tag
unfoldable pub tags_on_literals : ⊤
unfolding encode reference value_of point_of found_here is_blocked is_digit_of is_alnum is_letter is_space lower is_name_end is_small is_tag_byte is_tag_name reference_at is_name_byte is_later_byte is_unquoted_byte is_inside is_quote is_tag_end attribute_at is_bad_byte tag_fault read_start read_end read_tag begins_tag
tags_on_literals = tt

abbrev attribute : List ℕ → List ℕ → Attribute
attribute name value = record { name = name; value = value }

slashes_in_a_value : read_tag [] (codes "<a/b=c//>d") ≡ taken (start_tag (codes "a") (attribute (codes "b") (codes "c//") ∷ []) false) (codes "d")
unfolding tags_on_literals
slashes_in_a_value = refl

next_at_once : read_tag [] (codes "<a b=\"c\"d/>") ≡ taken (start_tag (codes "a") (attribute (codes "b") (codes "c") ∷ attribute (codes "d") [] ∷ []) true) []
unfolding tags_on_literals
next_at_once = refl

first_of_a_name : read_tag [] (codes "<A B=1 b=2>") ≡ taken (start_tag (codes "a") (attribute (codes "b") (codes "1") ∷ []) false) []
unfolding tags_on_literals
first_of_a_name = refl

an_end_tag : read_tag [] (codes "</a b=c/>") ≡ taken (end_tag (codes "a")) []
unfolding tags_on_literals
an_end_tag = refl

equals_first : read_tag [] (codes "<a =x>") ≡ refused faults.BadName
unfolding tags_on_literals
equals_first = refl

bad_and_cut : read_tag [] (codes "<a \"x") ≡ refused faults.Cut
unfolding tags_on_literals
bad_and_cut = refl

no_quote_after : read_tag [] (codes "<a b='x\">") ≡ refused faults.Cut
unfolding tags_on_literals
no_quote_after = refl

a_bad_end_tag : read_tag [] (codes "</b \"x>") ≡ refused faults.BadName
unfolding tags_on_literals
a_bad_end_tag = refl

a_bad_tag_name : read_tag [] (codes "<a\"b>") ≡ refused faults.BadName
unfolding tags_on_literals
a_bad_tag_name = refl

spaces_around_equals : read_tag [] (codes "<a b = 'c' d = >") ≡ taken (start_tag (codes "a") (attribute (codes "b") (codes "c") ∷ attribute (codes "d") [] ∷ []) false) []
unfolding tags_on_literals
spaces_around_equals = refl

no_flag_after_a_space : read_tag [] (codes "<a/ >") ≡ taken (start_tag (codes "a") [] false) []
unfolding tags_on_literals
no_flag_after_a_space = refl

references_in_values : read_tag seven (codes "<a b=&amp&not;&notit c='&#x80;'>") ≡ taken (start_tag (codes "a") (attribute (codes "b") (38 ∷ 194 ∷ 172 ∷ codes "&notit") ∷ attribute (codes "c") (226 ∷ 130 ∷ 172 ∷ []) ∷ []) false) []
unfolding tags_on_literals
references_in_values = refl

an_end_tag_begins : begins_tag (codes "</p") ≡ true
unfolding tags_on_literals
an_end_tag_begins = refl

no_tag_begins : begins_tag (codes "</>") ≡ false
unfolding tags_on_literals
no_tag_begins = refl
