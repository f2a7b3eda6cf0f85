-- The edges of characters on examples, in their order.
use Rattle.std.specs.Prelude.{◌≡◌, true, false, List, [], ◌∷◌, Some, None, codes, refl}
use Rattle.std.specs.Fmt.{digits}
use lib.Utf8.{encode}
use Rattle.hm_refs.specs.Examples.{seven}
use Rattle.hm_refs.specs.Names.{Entry}
use Rattle.hm_refs.specs.Numbers.{best_number, point_of}
use Rattle.hm_spelling_spec.specs.Characters.{CharacterRules, is_writable, may_stand}
use Rattle.hm_graph_laws.specs.CharacterEdges.{as_itself, after_name, after_pair, character_edges}
use Rattle.hm_graph_laws.specs.Edges.{edge}
use Rattle.hm_graph_laws.specs.States.{first_state, state, outside, in_section, nothing, less_than, decimal, ampersand, named, half, one_bracket, two_brackets}
use Rattle.hm_graph_laws.specs.Units.{in_foreign, in_text}

-- a name for two code points
abbrev pub two : List Entry
two = record { name = codes "&ab;"; points = 120 ∷ 0x338 ∷ [] } ∷ []

-- references at all characters, and high ones as themselves
abbrev pub usual : CharacterRules
usual = record { ascii = false; refers = λ c. true }

pub of_less_than : character_edges [] usual in_text 60 None first_state ≡ edge (codes "<") outside less_than ∷ edge (codes "&#60") outside decimal ∷ edge (codes "&#60;") outside nothing ∷ []
unfolding as_itself may_stand is_writable best_number point_of digits encode
of_less_than = refl

pub of_ampersand : character_edges seven usual in_text 38 (Some 120) first_state
    ≡ edge (codes "&") outside (ampersand (codes "&")) ∷ edge (codes "&amp") outside (named (codes "&amp")) ∷ edge (codes "&amp;") outside nothing ∷ edge (codes "&#38") outside decimal ∷ edge (codes "&#38;") outside nothing ∷ []
unfolding as_itself may_stand is_writable best_number point_of digits encode after_name
of_ampersand = refl

-- a name that gives x and the code point after it, which is due then
pub of_pair : character_edges two usual in_text 120 (Some 0x338) first_state ≡ edge (codes "x") outside nothing ∷ edge (codes "&ab;") outside (half None) ∷ edge (codes "&#120") outside decimal ∷ edge (codes "&#120;") outside nothing ∷ []
unfolding as_itself may_stand is_writable best_number point_of digits encode after_pair
of_pair = refl

pub of_due : character_edges two usual in_text 0x338 None (state outside (half None)) ≡ edge [] outside nothing ∷ []
of_due = refl

-- a CR only by its number
pub of_return : character_edges [] usual in_text 13 None first_state ≡ edge (codes "&#13") outside decimal ∷ edge (codes "&#13;") outside nothing ∷ []
unfolding as_itself may_stand is_writable best_number point_of digits
of_return = refl

-- in SVG a character also opens a section, which goes on or closes at once
pub of_section : character_edges [] usual in_foreign 60 (Some 97) first_state
    ≡ edge (codes "<") outside less_than ∷ edge (codes "&#60") outside decimal ∷ edge (codes "&#60;") outside nothing ∷ edge (codes "<![CDATA[<") in_section nothing ∷ edge (codes "<![CDATA[<]]>") outside nothing ∷ []
unfolding as_itself may_stand is_writable best_number point_of digits encode
of_section = refl

-- brackets are pending, and after two of them '>' has no place in the section
pub of_bracket : character_edges [] usual in_foreign 93 (Some 62) (state in_section one_bracket) ≡ edge (codes "]") in_section two_brackets ∷ edge (codes "]]]>") outside nothing ∷ []
unfolding is_writable encode
of_bracket = refl

pub of_section_end : character_edges [] usual in_foreign 62 None (state in_section two_brackets) ≡ []
unfolding is_writable
of_section_end = refl
