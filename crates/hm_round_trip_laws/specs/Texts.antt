-- Spelled texts are read as the texts, up to where they end.
use Rattle.std.specs.Prelude.{◌≡◌, ℕ, Bool, true, false, List, ◌∷◌, ◌++◌, length, Some, if◌then◌else◌, chars, encode_utf8_all}
use Rattle.std.specs.Str.{is_utf8}
use Rattle.hm_base.specs.RawText.{begins_end_tag, raw_end}
use Rattle.hm_base.specs.Walks.{Element}
use Rattle.hm_elements.specs.Paths.{current, is_in_svg}
use Rattle.hm_elements.specs.Tables.{is_rcdata}
use Rattle.hm_refs.specs.Names.{Entry}
use Rattle.hm_refs.specs.Tables.{IsTable}
use Rattle.hm_spelling_spec.specs.Characters as spots
use Rattle.hm_spelling_spec.specs.Characters.{Spot, CharacterRules, SpellsPoints}
use Rattle.hm_spelling_spec.specs.Spellings.{Before, wants_line_feed, TextSp}
use Rattle.hm_spelling_spec.specs.Tags.{Spelling}
use Rattle.hm_token_laws.specs.First as modes
use Rattle.hm_token_laws.specs.First.{Mode, in_svg}
use Rattle.hm_token_laws.specs.Laws.{reads_markup}
use Rattle.hm_token_laws.specs.Decided.{TextPiece, written_so, meant, ArePieces, ends_text, IsReadAs}

-- b stands in pieces that mean this text, where `after` follows b
pub record InPieces (t : List Entry) (in_rcdata : Bool) (s b after : List ℕ) : Type 0 where
  pub pieces : List TextPiece
  pub written : written_so pieces ≡ b
  pub means : meant pieces ≡ s
  pub good : ArePieces t in_rcdata pieces after

-- Texts in pieces that touch are one in pieces.
abbrev pub TouchingTextsAreInPieces : Type 0
TouchingTextsAreInPieces = (t : List Entry) (in_rcdata : Bool) (s b more c after : List ℕ)
    → InPieces t in_rcdata s b (c ++ after) → InPieces t in_rcdata more c after → InPieces t in_rcdata (s ++ more) (b ++ c) after

-- ---- code points

-- the spot of ordinary text, or that of title and textarea
abbrev pub text_spot : Bool → Spot
text_spot true = spots.rcdata
text_spot false = spots.text

abbrev pub SpelledPointsAreInPieces : Type 0
SpelledPointsAreInPieces = (t : List Entry) (rules : CharacterRules) (in_rcdata : Bool) (cs b after : List ℕ)
    → IsTable t → SpellsPoints t rules (text_spot in_rcdata) cs b after → InPieces t in_rcdata (encode_utf8_all cs) b after

-- Code points that are spelled in an element of SVG, with CDATA sections or without, are read before what ends a text.
abbrev pub SpelledSvgPointsAreRead : Type 0
SpelledSvgPointsAreRead = (t : List Entry) (rules : CharacterRules) (cs b after : List ℕ)
    → IsTable t → ends_text t after ≡ true → SpellsPoints t rules spots.foreign cs b after → IsReadAs t in_svg (b ++ after) after (encode_utf8_all cs)

-- What is spelled in title or textarea ends at the end tag that follows it, and not before.
abbrev pub SpelledPointsEndThere : Type 0
SpelledPointsEndThere = (t : List Entry) (rules : CharacterRules) (name cs b after : List ℕ)
    → IsTable t → begins_end_tag name after ≡ true → SpellsPoints t rules spots.rcdata cs b after → raw_end name (b ++ after) ≡ Some (length b)

-- ---- texts of a tree

-- the text as it is read: first the line feed that is dropped after the start tag of pre or textarea, where there is one
abbrev pub text_as_read : Before → List Element → List ℕ → List ℕ
text_as_read before path s = if wants_line_feed before path (chars s) then 10 ∷ s else s

-- a text that isn't raw, in an HTML element, whatever follows
abbrev pub SpelledTextsAreInPieces : Type 0
SpelledTextsAreInPieces = (g : Spelling) (before : Before) (path : List Element) (s b after : List ℕ)
    → IsTable g.table → is_utf8 s ≡ true → is_in_svg path ≡ false → TextSp g before path s false b after → InPieces g.table (is_rcdata (current path)) (text_as_read before path s) b after

-- in an element that is neither title nor textarea, before what ends a text
abbrev pub SpelledTextsAreRead : Type 0
SpelledTextsAreRead = (g : Spelling) (mode : Mode) (before : Before) (path : List Element) (s b after : List ℕ)
    → IsTable g.table → is_utf8 s ≡ true → reads_markup mode ≡ true → is_in_svg path ≡ false → is_rcdata (current path) ≡ false
    → ends_text g.table after ≡ true → TextSp g before path s false b after → IsReadAs g.table mode (b ++ after) after (text_as_read before path s)

-- in an element of SVG, where no line feed is dropped
abbrev pub SpelledSvgTextsAreRead : Type 0
SpelledSvgTextsAreRead = (g : Spelling) (before : Before) (path : List Element) (s b after : List ℕ)
    → IsTable g.table → is_utf8 s ≡ true → is_in_svg path ≡ true → ends_text g.table after ≡ true → TextSp g before path s false b after → IsReadAs g.table in_svg (b ++ after) after s

-- in title and textarea, before the end tag
abbrev pub SpelledElementTextsAreRead : Type 0
SpelledElementTextsAreRead = (g : Spelling) (before : Before) (path : List Element) (s b after : List ℕ)
    → IsTable g.table → is_utf8 s ≡ true → is_in_svg path ≡ false → is_rcdata (current path) ≡ true → begins_end_tag (current path) after ≡ true
    → TextSp g before path s false b after → IsReadAs g.table (modes.rcdata (current path)) (b ++ after) after (text_as_read before path s)
