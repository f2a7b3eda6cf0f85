-- What is explained of a page: where and why it is refused, or how short its tree can be written.
use Rattle.std.specs.Prelude.{ℕ, ◌≡◌, ◌⊎◌, ◌≤◌, Bool, not, ◌&&◌, ◌||◌, ◌==◌, nat_lt, List, [], ◌∷◌, ◌++◌, map, filter, length, take, if◌then◌else◌, codes}
use Rattle.std.specs.Fmt.{decimal, is_char_start}
use Rattle.hm_base.specs.Rules.{name_of}
use Rattle.hm_base.specs.declared.limits.TheConstants.{PAGE_LIMIT}
use Rattle.hm_base.specs.declared.rules.Rule.{Rule}
use Rattle.hm_base.specs.declared.rules.Rule.TheVariants.{TooLong, NotUtf8, Nul, Cut, BadName, TooManyAttributes, BadDoctype, NoDoctype, SecondDoctype, RefusedName, SecondRoot, StrayEnd, NotCurrent, BlockInParagraph, Nested, WrongParent, TextHere, AfterHead, AfterBody, Unclosed, TooDeep, ForeignName, FrameEnd}
use Rattle.hm_location.specs.Lines.{column_of, line_of, without_mark}
use Rattle.hm_location.specs.Shown.{front_shown, rest_shown}

-- what a rule means, in one sentence
abbrev pub meaning : Rule → List ℕ
meaning TooLong = codes "The page goes on after 16,777,216 bytes, and no more are read."
meaning NotUtf8 = codes "These bytes aren't UTF-8, which HTML asks for."
meaning Nul = codes "This is a zero byte, and HTML allows none."
meaning Cut = codes "What begins here has no end in the page, and HTML asks for one."
meaning BadName = codes "A name in this tag isn't read: that of an element is a letter and then letters, digits, '.', '_', ':' or '-', and that of an attribute holds no quote and no '<' and doesn't begin with '='."
meaning TooManyAttributes = codes "This tag has more than 256 attributes, and no more are read."
meaning BadDoctype = codes "This doctype is neither <!doctype html> nor the same with SYSTEM \"about:legacy-compat\", and HTML allows no other."
meaning NoDoctype = codes "No doctype stands before this, and HTML asks for <!doctype html> first."
meaning SecondDoctype = codes "This is a doctype in a later place, and HTML allows one, at the start."
meaning RefusedName = codes "This element is one that isn't read, as template, frameset, math and marquee."
meaning SecondRoot = codes "This start tag of html, head or body comes out of its turn, and HTML has each once, in this order."
meaning StrayEnd = codes "This end tag closes nothing, since no element of its name is open."
meaning NotCurrent = codes "Elements are open inside the one that this end tag closes, and HTML asks for their end tags first."
meaning BlockInParagraph = codes "This element closes a p, and HTML asks for the end tags of the elements inside that p first."
meaning Nested = codes "This element stands inside another of its kind, which HTML forbids of a, button, form, nobr and headings."
meaning WrongParent = codes "This element can't stand in the one that is open here, and HTML asks for another parent."
meaning TextHere = codes "Text stands here, where HTML allows whitespace alone, as in table and select."
meaning AfterHead = codes "This element belongs in head, which is closed already."
meaning AfterBody = codes "The body is closed already, and HTML allows whitespace and comments alone after it."
meaning Unclosed = codes "An element is still open here, for which HTML asks for an end tag."
meaning TooDeep = codes "With this element more than 512 are open, and no more are read."
meaning ForeignName = codes "This element stands in svg and is none of SVG's."
meaning FrameEnd = codes "This end tag closes the body around the fragment, which is the content of body alone."

-- ---- a page that is refused

-- where and why
abbrev pub place_line : List ℕ → ℕ → ℕ → Rule → List ℕ
place_line name line column rule = name ++ codes ":" ++ decimal line ++ codes ":" ++ decimal column ++ codes ": " ++ name_of rule ++ codes ": " ++ meaning rule ++ 10 ∷ []

-- a control character, but for a tab
abbrev pub is_control : ℕ → Bool
is_control c = (nat_lt c 32 && not (c == 9)) || c == 127

-- a byte as it is shown
abbrev pub shown_byte : ℕ → ℕ
shown_byte c = if is_control c then 63 else c

-- the part of a line that is shown for a place
abbrev pub page_line : List ℕ → List ℕ → List ℕ
page_line front rest = map shown_byte (front ++ rest) ++ 10 ∷ []

-- what stands below a character before the place
abbrev pub caret_byte : ℕ → ℕ
caret_byte c = if c == 9 then 9 else 32

-- a caret below the place, where as many columns stand before it
abbrev pub caret_line : List ℕ → List ℕ
caret_line front = map caret_byte (filter is_char_start (without_mark front)) ++ codes "^" ++ 10 ∷ []

-- what is explained of a page that is refused by a rule at a byte
abbrev pub explained : List ℕ → List ℕ → Rule → ℕ → List ℕ
explained name page rule at = place_line name (line_of page at) (column_of page at) rule ++ page_line (front_shown page at) (rest_shown page at) ++ caret_line (front_shown page at)

-- of a page that is too long, no more than its limit is looked at
abbrev pub explained_page : List ℕ → List ℕ → Rule → ℕ → List ℕ
explained_page name page rule at = explained name (take PAGE_LIMIT page) rule at

-- a place of a text, or its end where that comes first
abbrev pub IsPlaceIn : List ℕ → ℕ → ℕ → Type 0
IsPlaceIn page at place = (place ≡ at) ⊎ ((place ≡ length page) × (length page ≤ at))

-- ---- a page that isn't refused

-- a page of `page` bytes isn't refused, and its tree can be written in `out` bytes and no fewer
abbrev pub settled_line : List ℕ → ℕ → ℕ → List ℕ
settled_line name page out = name ++ codes ": settled, page " ++ decimal page ++ codes " output " ++ decimal out ++ 10 ∷ []
