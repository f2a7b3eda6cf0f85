-- The edges of a character, in their order: as itself, by each name that gives it, by its number, in a section.
use Rattle.std.specs.Prelude.{ℕ, Bool, true, false, not, ◌&&◌, ◌==◌, nat_le, List, [], ◌∷◌, ◌++◌, map, Option, Some, None, is_some, if◌then◌else◌, codes, encode_utf8, bytes_eq}
use Rattle.std.specs.Fmt as digits
use Rattle.hm_refs.specs.Names.{Entry, is_closed}
use Rattle.hm_refs.specs.Numbers.{best_number}
use Rattle.hm_spelling_spec.specs.Characters.{Spot, is_value, is_foreign, text, rcdata, foreign, is_writable, may_stand, CharacterRules}
use Rattle.hm_graph_laws.specs.Edges.{Edge, edge, edge_to}
use Rattle.hm_graph_laws.specs.States.{Where, outside, in_section, Pending, nothing, less_than, decimal, hexadecimal, ampersand, named, half, one_bracket, two_brackets, State, first_state, value_spot}
use Rattle.hm_graph_laws.specs.Steps.{step, run}
use Rattle.hm_graph_laws.specs.Units.{TextKind, in_text, in_rcdata, in_foreign, in_value}

-- the spot of a character: that of its text, or of the value that it stands in
abbrev pub spot_at : TextKind → Where → Spot
spot_at in_text at = text
spot_at in_rcdata at = rcdata
spot_at in_foreign at = foreign
spot_at in_value at = value_spot at

-- ---- Outside of sections: what is written, and what is pending then

pub record Choice : Type 0 where
  pub bytes : List ℕ
  pub to : Pending

abbrev pub choice : List ℕ → Pending → Choice
choice b p = record { bytes = b; to = p }

-- what is pending after a character as itself, where its bytes leave q
abbrev pub itself_to : Spot → ℕ → Pending → Pending
itself_to spot c q = if c == 38 then ampersand (38 ∷ []) else if c == 60 && not (is_value spot) then less_than else q

abbrev pub itself_by : Spot → ℕ → Option Pending → List Choice
itself_by spot c None = []
itself_by spot c (Some q) = choice (encode_utf8 c) (itself_to spot c q) ∷ []

-- first as itself, where it may stand and breaks nothing
unfoldable pub as_itself : List Entry → CharacterRules → Spot → ℕ → Pending → List Choice
as_itself t rules spot c p = if may_stand rules.ascii spot c then itself_by spot c (run t spot (Some p) (encode_utf8 c)) else []

unfoldable pub after_name : List ℕ → Pending
after_name m = if is_closed m then nothing else named m

unfoldable pub after_pair : List ℕ → Pending
after_pair m = half (if is_closed m then None else Some m)

-- the names that give these code points, in their order
abbrev pub by_names : (List ℕ → Pending) → List ℕ → List Entry → List Choice
by_names to points [] = []
by_names to points (e ∷ t) = if bytes_eq e.points points then choice e.name (to e.name) ∷ by_names to points t else by_names to points t

-- then by the names that give it, and after them by those that give it and the next one
abbrev pub by_pairs : List Entry → ℕ → Option ℕ → List Choice
by_pairs t c None = []
by_pairs t c (Some d) = by_names after_pair (c ∷ d ∷ []) t

-- then by the best number, without and with a ';'
abbrev pub by_decimal : Option ℕ → List Choice
by_decimal None = []
by_decimal (Some n) = choice (codes "&#" ++ digits.decimal n) decimal ∷ choice (codes "&#" ++ (digits.decimal n ++ codes ";")) nothing ∷ []

-- then in hexadecimal, where that is shorter
abbrev pub by_hexadecimal : ℕ → List Choice
by_hexadecimal c =
    if nat_le 1000000 c && nat_le c 1048575
    then choice (codes "&#x" ++ digits.digits 16 false c) hexadecimal ∷ choice (codes "&#x" ++ (digits.digits 16 false c ++ codes ";")) nothing ∷ []
    else []

abbrev pub by_references : List Entry → ℕ → Option ℕ → List Choice
by_references t c next = by_names after_name (c ∷ []) t ++ (by_pairs t c next ++ (by_decimal (best_number c) ++ by_hexadecimal c))

-- the name that is due its second code point
abbrev pub half_of : Pending → Option (Option (List ℕ))
half_of (half left) = Some left
half_of p = None

abbrev pub after_half : Option (List ℕ) → Pending
after_half None = nothing
after_half (Some q) = named q

-- A reference begins with '&', so it is a choice only where that breaks nothing.
abbrev pub choices_by : Option (Option (List ℕ)) → List Entry → CharacterRules → Spot → ℕ → Option ℕ → Pending → List Choice
choices_by (Some left) t rules spot c next p = choice [] (after_half left) ∷ []
choices_by None t rules spot c next p = as_itself t rules spot c p ++ (if is_some (step t spot p 38) && rules.refers c then by_references t c next else [])

-- the ways to write c outside of sections; next is the code point after it in the same text
abbrev pub choices : List Entry → CharacterRules → Spot → ℕ → Option ℕ → Pending → List Choice
choices t rules spot c next p = choices_by (half_of p) t rules spot c next p

-- ---- Sections

-- what is pending after c in a section
abbrev pub in_section_after : ℕ → Pending → Pending
in_section_after c nothing = if c == 93 then one_bracket else nothing
in_section_after c p = if c == 93 then two_brackets else nothing

-- with `]]` pending '>' would end the section
abbrev pub closes_section : ℕ → Pending → Bool
closes_section c two_brackets = c == 62
closes_section c p = false

-- `front` opens the section where it isn't open yet
abbrev pub section_edges_by : Option ℕ → List ℕ → ℕ → Pending → List Edge
section_edges_by None front c p = edge_to (front ++ (encode_utf8 c ++ codes "]]>")) first_state ∷ []
section_edges_by (Some d) front c p = edge (front ++ encode_utf8 c) in_section (in_section_after c p) ∷ edge_to (front ++ (encode_utf8 c ++ codes "]]>")) first_state ∷ []

-- c goes on in a section, or ends it
abbrev pub section_edges : Bool → ℕ → Option ℕ → Pending → List Edge
section_edges ascii c next p = if is_writable ascii c && not (closes_section c p) then section_edges_by next [] c p else []

abbrev pub is_outside : Where → Bool
is_outside outside = true
is_outside at = false

-- last in a section that c opens, in a text of SVG; the section goes on or closes
abbrev pub opened_sections : Bool → Spot → ℕ → Option ℕ → State → List Edge
opened_sections ascii spot c next s =
    if is_foreign spot && (is_outside s.at && (not (is_some (half_of s.pending)) && is_writable ascii c)) then section_edges_by next (codes "<![CDATA[") c nothing else []

-- ---- A character

abbrev pub kept_at : Where → Choice → Edge
kept_at at k = edge k.bytes at k.to

abbrev pub outside_edges : List Entry → CharacterRules → Spot → ℕ → Option ℕ → State → List Edge
outside_edges t rules spot c next s = map (kept_at s.at) (choices t rules spot c next s.pending) ++ opened_sections rules.ascii spot c next s

abbrev pub is_in_section : Where → Bool
is_in_section in_section = true
is_in_section at = false

-- the edges of a character from a state
abbrev pub character_edges : List Entry → CharacterRules → TextKind → ℕ → Option ℕ → State → List Edge
character_edges t rules kind c next s =
    if is_in_section s.at then section_edges rules.ascii c next s.pending else outside_edges t rules (spot_at kind s.at) c next s
