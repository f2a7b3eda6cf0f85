-- Every spelling of a tree: one piece of bytes for each event, judged together with the bytes that follow it.
use Rattle.std.specs.Prelude.{◌≡◌, ◌≤◌, ℕ, Bool, true, false, not, ◌&&◌, ◌||◌, ◌==◌, List, [], ◌∷◌, ◌++◌, length, Some, None, if◌then◌else◌, codes, chars}
use Rattle.hm_base.specs.Bytes.{head_is}
use Rattle.hm_base.specs.Walks.{Attribute, Event, doctype, start, text, comment, end, Element, begins_end}
use Rattle.hm_base.specs.declared.plain.SpellRules.{SpellRules}
use Rattle.hm_elements.specs.Names.{is_among}
use Rattle.hm_elements.specs.Tables.{preformatted, is_void, is_rcdata}
use Rattle.hm_elements.specs.Paths.{current, is_in_svg, outer}
use Rattle.hm_markup_spec.specs.Tags.{WritesEnd}
use Rattle.hm_refs.specs.Names.{Entry}
use Rattle.hm_spelling_spec.specs.Characters as spots
use Rattle.hm_spelling_spec.specs.Characters.{Spot, SpellsPoints}
use Rattle.hm_spelling_spec.specs.Tags.{Spelling, character_rules, SpellsStart, SpellsDoctype}
use Rattle.hm_spelling_spec.specs.Omission.{LeftOut, may_omit_start, may_omit_end}

-- what the event directly before was and how it was spelled, as far as the next one asks
pub data Before : Type 0 where
  other : Before
  opening : Before  -- a start
  self_closing : Before  -- a start tag of SVG with a '/', which stands for the end tag as well
  end_omitted : List ℕ → Before  -- an end of an element of that name, whose tag was left out

abbrev pub left_out_before : Before → LeftOut
left_out_before (end_omitted n) = Some n
left_out_before before = None

-- ---- Texts

-- the spot in which a text is spelled, by the open elements
abbrev pub spot_of : List Element → Spot
spot_of path = if is_in_svg path then spots.foreign else if is_rcdata (current path) then spots.rcdata else spots.text

-- a line feed that comes first in these elements isn't read (HTML Standard, #element-restrictions)
unfoldable pub drops_first_line_feed : List Element → Bool
drops_first_line_feed path = not (is_in_svg path) && is_among (current path) preformatted

abbrev pub is_line_feed : ℕ → Bool
is_line_feed c = c == 10

abbrev pub is_opening : Before → Bool
is_opening opening = true
is_opening before = false

-- a text that comes first in such an element and begins with a line feed gets one more line feed before it
abbrev pub wants_line_feed : Before → List Element → List ℕ → Bool
wants_line_feed before path cs = is_opening before && (drops_first_line_feed path && head_is is_line_feed cs)

abbrev pub with_line_feed : Before → List Element → List ℕ → List ℕ
with_line_feed before path cs = if wants_line_feed before path cs then 10 ∷ cs else cs

-- a raw text stands as it is, every other one is spelled by characters
abbrev pub TextSp : Spelling → Before → List Element → List ℕ → Bool → List ℕ → List ℕ → Type 0
TextSp g before path s true b after = b ≡ s
TextSp g before path s false b after = SpellsPoints g.table (character_rules g) (spot_of path) (with_line_feed before path (chars s)) b after

-- ---- Start tags

pub data StartForm : Type 0 where
  omitted : StartForm
  written : StartForm
  slashed : StartForm  -- with a '/' before its '>'

-- An element that ends at once may have a '/': a void one, and one of SVG.
abbrev pub may_be_slashed : List ℕ → Bool → List Event → Bool
may_be_slashed n true w = begins_end w
may_be_slashed n false w = is_void n

abbrev pub StartSp : Spelling → Before → List ℕ → Bool → List Attribute → List Event → StartForm → List ℕ → List ℕ → Type 0
StartSp g before n foreign attributes w omitted b after = (b ≡ []) × (may_omit_start g.rules (left_out_before before) n foreign attributes w ≡ true)
StartSp g before n foreign attributes w written b after = SpellsStart g n attributes false b after
StartSp g before n foreign attributes w slashed b after = (may_be_slashed n foreign w ≡ true) × SpellsStart g n attributes true b after

-- an element of SVG whose start tag has a '/' has no end tag
abbrev pub after_start : Bool → StartForm → Before
after_start true slashed = self_closing
after_start foreign form = opening

-- ---- End tags

pub data EndForm : Type 0 where
  absent : EndForm  -- the element has no end tag
  omitted : EndForm
  written : EndForm

abbrev pub is_self_closing : Before → Bool
is_self_closing self_closing = true
is_self_closing before = false

-- void elements have no end tag, nor do those that their start tag closes
abbrev pub has_no_end_tag : Before → List ℕ → Bool → Bool
has_no_end_tag before n foreign = is_self_closing before || (not foreign && is_void n)

abbrev pub EndSp : Spelling → Before → List ℕ → Bool → List Element → List Event → EndForm → List ℕ → Type 0
EndSp g before n foreign path w absent b = (b ≡ []) × (has_no_end_tag before n foreign ≡ true)
EndSp g before n foreign path w omitted b = (b ≡ []) × (has_no_end_tag before n foreign ≡ false) × (may_omit_end g.rules n foreign path w ≡ true)
EndSp g before n foreign path w written b = (has_no_end_tag before n foreign ≡ false) × WritesEnd n b

abbrev pub after_end : List ℕ → EndForm → Before
after_end n omitted = end_omitted n
after_end n form = other

-- ---- Trees

-- b spells the events that are left, after what is before and with these elements open
abbrev pub SpellsFrom : Spelling → Before → List Element → List Event → List ℕ → Type 0
SpellsFrom g before path [] b = b ≡ []
SpellsFrom g before path (doctype legacy ∷ w) b = (piece rest : List ℕ) × (b ≡ piece ++ rest) × SpellsDoctype legacy piece × SpellsFrom g other path w rest
SpellsFrom g before path (comment s ∷ w) b = (rest : List ℕ) × (b ≡ codes "<!--" ++ (s ++ (codes "-->" ++ rest))) × SpellsFrom g other path w rest
SpellsFrom g before path (text s raw ∷ w) b = (piece rest : List ℕ) × (b ≡ piece ++ rest) × TextSp g before path s raw piece rest × SpellsFrom g other path w rest
SpellsFrom g before path (start n foreign attributes ∷ w) b =
    (form : StartForm) × (piece rest : List ℕ) × (b ≡ piece ++ rest) × StartSp g before n foreign attributes w form piece rest
    × SpellsFrom g (after_start foreign form) (record { name = n; foreign = foreign } ∷ path) w rest
SpellsFrom g before path (end n foreign ∷ w) b =
    (form : EndForm) × (piece rest : List ℕ) × (b ≡ piece ++ rest) × EndSp g before n foreign (outer path) w form piece
    × SpellsFrom g (after_end n form) (outer path) w rest

-- b spells a tree where a reference may begin at these characters alone
abbrev pub SpellsWhere : (ℕ → Bool) → List Entry → SpellRules → List Event → List ℕ → Type 0
SpellsWhere refers t r w b = SpellsFrom (record { table = t; rules = r; refers = refers }) other [] w b

abbrev pub everywhere : ℕ → Bool
everywhere c = true

-- b spells a tree with this table of names, by these rules
abbrev pub Spells : List Entry → SpellRules → List Event → List ℕ → Type 0
Spells t r w b = SpellsWhere everywhere t r w b

-- no spelling has fewer bytes than n
abbrev pub Shortest : List Entry → SpellRules → List Event → ℕ → Type 0
Shortest t r w n = (b : List ℕ) → Spells t r w b → n ≤ length b
