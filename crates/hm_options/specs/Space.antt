-- Whitespace of texts made short.
use Rattle.std.specs.Prelude.{ℕ, Bool, true, false, not, ◌&&◌, ◌||◌, ◌==◌, List, [], ◌∷◌, Option, Some, None, if◌then◌else◌, codes, bytes_eq}
use Rattle.hm_base.specs.Bytes.{is_space}
use Rattle.hm_base.specs.Walks.{Event, doctype, start, text, comment, end, Element}
use Rattle.hm_elements.specs.Names.{is_among, head, noscript}
use Rattle.hm_elements.specs.Nesting.{is_name}
use Rattle.hm_elements.specs.Paths.{current_name}
use Rattle.hm_elements.specs.Tables.{is_block, preformatted, space_parents}
use Rattle.hm_options.specs.Rewritten.{rewritten}

-- each longest run of whitespace as one SPACE; `after` says that whitespace stands directly before
abbrev pub spaced : Bool → List ℕ → List ℕ
spaced after [] = []
spaced after (c ∷ s) =
    if is_space c then (if after then spaced true s else 32 ∷ spaced true s)
    else c ∷ spaced false s

-- elements in which whitespace is seen as it is
unfoldable pub keeps_space : Element → Bool
keeps_space e = if e.foreign then bytes_eq e.name (codes "svg") else is_among e.name preformatted

abbrev pub is_kept : List Element → Bool
is_kept [] = false
is_kept (e ∷ path) = keeps_space e || is_kept path

-- directly in these elements a text of only whitespace isn't seen
unfoldable pub hides_space : List Element → Bool
hides_space [] = false
hides_space (e ∷ path) = not e.foreign && (is_among e.name space_parents || (bytes_eq e.name noscript && is_name head (current_name path)))

-- the start or the end of a block
abbrev pub is_edge : Option Event → Bool
is_edge None = false
is_edge (Some (start n foreign attributes)) = not foreign && is_block n
is_edge (Some (end n foreign)) = not foreign && is_block n
is_edge (Some e) = false

abbrev pub without_leading : Bool → List ℕ → List ℕ
without_leading edge [] = []
without_leading edge (c ∷ s) = if edge && c == 32 then s else c ∷ s

abbrev pub without_trailing : Bool → List ℕ → List ℕ
without_trailing edge [] = []
without_trailing edge (c ∷ []) = if edge && c == 32 then [] else c ∷ []
without_trailing edge (c ∷ d ∷ s) = c ∷ without_trailing edge (d ∷ s)

abbrev pub is_one_space : List ℕ → Bool
is_one_space s = bytes_eq s (32 ∷ [])

-- a text, where it isn't empty
abbrev pub text_of : List ℕ → List Event
text_of [] = []
text_of (c ∷ s) = text (c ∷ s) false ∷ []

-- a text whose runs of whitespace are single spaces: nothing where it is one space that isn't seen, else without a space
-- at the edge of a block
abbrev pub trimmed : List Element → Option Event → Option Event → List ℕ → List Event
trimmed path before next s =
    if is_one_space s && hides_space path then []
    else text_of (without_trailing (is_edge next) (without_leading (is_edge before) s))

abbrev pub collapsed_text : Bool → List Element → Option Event → Option Event → List ℕ → List Event
collapsed_text conservative path before next s =
    if is_kept path then text s false ∷ []
    else if conservative then text (spaced false s) false ∷ []
    else trimmed path before next (spaced false s)

-- a raw text and every other event stay
abbrev pub collapsed_event : Bool → List Element → Option Event → Event → Option Event → List Event
collapsed_event conservative path before (text s false) next = collapsed_text conservative path before next s
collapsed_event conservative path before (text s true) next = text s true ∷ []
collapsed_event conservative path before (doctype legacy) next = doctype legacy ∷ []
collapsed_event conservative path before (start n foreign attributes) next = start n foreign attributes ∷ []
collapsed_event conservative path before (comment s) next = comment s ∷ []
collapsed_event conservative path before (end n foreign) next = end n foreign ∷ []

-- the walk with its whitespace collapsed, conservatively or not
unfoldable pub collapsed : Bool → List Event → List Event
collapsed conservative w = rewritten (collapsed_event conservative) [] None w
