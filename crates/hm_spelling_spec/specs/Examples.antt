-- The definitions on examples: above all the rules that a reader doesn't notice, since what breaks them is read too.
use Rattle.std.specs.Prelude.{◌≡◌, true, false, List, [], ◌∷◌, codes, refl}
use lib.Utf8.{encode}
use Rattle.hm_base.specs.Bytes.{is_letter, is_space, is_alnum, is_digit_of}
use Rattle.hm_refs.specs.Names.{Entry, found_here}
use Rattle.hm_refs.specs.Numbers.{point_of, best_number}
use Rattle.hm_refs.specs.References.{reference, value_of, is_blocked}
use Rattle.hm_spelling_spec.specs.Characters.{text, rcdata, foreign, unquoted, double, single, opens_text, is_barred, is_writable, may_stand, stays, itself, reference_to, section, is_section, CharacterRules, SpellsPoints}

abbrev pub few : List Entry
few = record { name = codes "&ab;"; points = 120 ∷ 0x338 ∷ [] } ∷ record { name = codes "&not"; points = 172 ∷ [] } ∷ record { name = codes "&not;"; points = 172 ∷ [] } ∷ []

abbrev pub usual : CharacterRules
usual = record { ascii = false; refers = λ c. true }

-- ---- a CR never stands as itself: it would be read as a line feed (#preprocessing-the-input-stream)

pub return_in_text : may_stand false text 13 ≡ false
unfolding may_stand is_writable
return_in_text = refl

pub return_in_quotes : may_stand false double 13 ≡ false
unfolding may_stand is_writable
return_in_quotes = refl

pub return_in_section : is_section false (97 ∷ 13 ∷ []) ≡ false
unfolding is_section is_writable
return_in_section = refl

pub line_feed_in_section : is_section false (97 ∷ 10 ∷ []) ≡ true
unfolding is_section is_writable
line_feed_in_section = refl

-- ---- '=', '<' and the grave accent stand in no value without quotes (#attributes-2), but in quotes

pub equals_unquoted : may_stand false unquoted 61 ≡ false
unfolding may_stand is_writable is_barred is_space
equals_unquoted = refl

pub lt_unquoted : may_stand false unquoted 60 ≡ false
unfolding may_stand is_writable is_barred is_space
lt_unquoted = refl

pub grave_unquoted : may_stand false unquoted 96 ≡ false
unfolding may_stand is_writable is_barred is_space
grave_unquoted = refl

pub slash_unquoted : may_stand false unquoted 47 ≡ true
unfolding may_stand is_writable is_barred is_space
slash_unquoted = refl

pub equals_in_quotes : may_stand false single 61 ≡ true
unfolding may_stand is_writable
equals_in_quotes = refl

-- ---- under the rule `ascii` no character above U+007F that a number gives stands as itself

pub euro_under_ascii : may_stand true text 0x20AC ≡ false
unfolding may_stand is_writable best_number
euro_under_ascii = refl

pub euro_without : may_stand false text 0x20AC ≡ true
unfolding may_stand is_writable
euro_without = refl

-- no number gives this one: its own number gives the euro sign (#numeric-character-reference-end-state)
pub control_under_ascii : may_stand true text 0x80 ≡ true
unfolding may_stand is_writable best_number point_of
control_under_ascii = refl

pub euro_in_section : is_section true (0x20AC ∷ []) ≡ false
unfolding is_section is_writable best_number
euro_in_section = refl

-- ---- '&' and '<' as themselves

-- in text a name is read whatever follows, in a value no letter, digit or '=' may follow
pub amp_in_text : stays few text 38 (codes "notit") ≡ false
unfolding stays reference found_here is_blocked
amp_in_text = refl

pub amp_in_value : stays few double 38 (codes "notit") ≡ true
unfolding stays reference found_here is_blocked is_alnum is_letter
amp_in_value = refl

pub lt_in_text : stays few text 60 (codes "b") ≡ false
unfolding stays opens_text is_letter
lt_in_text = refl

pub lt_in_title : stays few rcdata 60 (codes "b") ≡ true
unfolding stays
lt_in_title = refl

-- ---- texts in pieces

-- a letter as itself, then a number with leading zeros and a name without ';'
pub mixed : SpellsPoints few usual text (97 ∷ 60 ∷ 172 ∷ []) (codes "a&#060;&not") (codes "</p>")
unfolding may_stand is_writable stays encode reference value_of point_of is_digit_of found_here is_blocked
mixed = record {
  pieces = itself 97 ∷ reference_to (codes "&#060;") (60 ∷ []) ∷ reference_to (codes "&not") (172 ∷ []) ∷ [];
  whole = refl;
  means = refl;
  allowed = ((refl, refl), ((refl, refl), ((refl, refl), tt)));
}

-- two code points by one name
pub paired : SpellsPoints few usual double (120 ∷ 0x338 ∷ []) (codes "&ab;") (codes "\"")
unfolding reference found_here is_blocked
paired = record { pieces = reference_to (codes "&ab;") (120 ∷ 0x338 ∷ []) ∷ []; whole = refl; means = refl; allowed = ((refl, refl), tt) }

-- in SVG a section, and after it what stands as itself
pub sectioned : SpellsPoints few usual foreign (60 ∷ 97 ∷ 98 ∷ []) (codes "<![CDATA[<a]]>b") (codes "</text>")
unfolding may_stand is_writable is_section stays encode
sectioned = record { pieces = section (60 ∷ 97 ∷ []) ∷ itself 98 ∷ []; whole = refl; means = refl; allowed = ((refl, refl), ((refl, refl), tt)) }
