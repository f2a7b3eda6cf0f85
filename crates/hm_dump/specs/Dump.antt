-- A walk as lines of text, one for each event but the ends.
use Rattle.std.specs.Prelude.{ℕ, ◌*◌, ◌==◌, true, false, List, [], ◌∷◌, ◌++◌, length, replicate, flat_map, codes, if◌then◌else◌}
use Rattle.hm_base.specs.Walks.{Event, doctype, start, text, comment, end, Attribute, Element, path_after_event}

-- a byte inside quotes: `\"`, `\\`, `\n`, `\r` and `\t` for these characters, any other as it is
abbrev pub quoted_byte : ℕ → List ℕ
quoted_byte c =
    if c == 34 then 92 ∷ 34 ∷ [] else
    (if c == 92 then 92 ∷ 92 ∷ [] else
    (if c == 10 then 92 ∷ 110 ∷ [] else
    (if c == 13 then 92 ∷ 114 ∷ [] else
    (if c == 9 then 92 ∷ 116 ∷ [] else c ∷ []))))

abbrev pub quoted : List ℕ → List ℕ
quoted s = 34 ∷ flat_map quoted_byte s ++ 34 ∷ []

-- a space, the name, `=` and the quoted value
abbrev pub attribute_text : Attribute → List ℕ
attribute_text a = 32 ∷ a.name ++ 61 ∷ quoted a.value

-- what the line of an event says after its spaces
abbrev pub event_text : Event → List ℕ
event_text (doctype false) = codes "doctype"
event_text (doctype true) = codes "doctype legacy"
event_text (start n foreign attributes) = codes "element " ++ n ++ flat_map attribute_text attributes
event_text (text s raw) = codes "text " ++ quoted s
event_text (comment s) = codes "comment " ++ quoted s
event_text (end n foreign) = []

-- two spaces for each open element
abbrev pub spaces_for : ℕ → List ℕ
spaces_for depth = replicate (2 * depth) 32

-- the spaces, what the line says, and LF
abbrev pub whole_line : ℕ → List ℕ → List ℕ
whole_line depth said = spaces_for depth ++ said ++ 10 ∷ []

-- the line of an event under `depth` open elements; an end has none
abbrev pub line_of : ℕ → Event → List ℕ
line_of depth (doctype legacy) = whole_line depth (event_text (doctype legacy))
line_of depth (start n foreign attributes) = whole_line depth (event_text (start n foreign attributes))
line_of depth (text s raw) = whole_line depth (event_text (text s raw))
line_of depth (comment s) = whole_line depth (event_text (comment s))
line_of depth (end n foreign) = []

-- the lines of the events, before which the elements of this path are open
abbrev pub lines_from : List Element → List Event → List ℕ
lines_from path [] = []
lines_from path (e ∷ w) = line_of (length path) e ++ lines_from (path_after_event path e) w

abbrev pub dump_of : List Event → List ℕ
dump_of w = lines_from [] w
