-- What holds of tokens that are read from the text of a page.
use Rattle.std.specs.Prelude.{◌≡◌, ℕ, ◌+◌, ◌*◌, ◌≤◌, Bool, true, false, List, ◌++◌, length, Some, codes, encode_utf8_all}
use Rattle.std.specs.Str.{is_utf8}
use Rattle.hm_base.specs.Bytes.{all_pass, is_null}
use Rattle.hm_base.specs.Forms.{has_byte, is_tag_name, is_comment_text}
use Rattle.hm_base.specs.RawText.{raw_end, script_end}
use Rattle.hm_base.specs.Source.{is_text_byte}
use Rattle.hm_base.specs.Walks.{Attribute, attributes_size}
use Rattle.hm_elements.specs.Places.{AttributesAllowed}
use Rattle.hm_elements.specs.Settled as settled
use Rattle.hm_refs.specs.Names.{Entry, is_good_name}
use Rattle.hm_refs.specs.Tables.{IsIn, are_points}
use Rattle.hm_tree.specs.Tokens.{Seen, doctype, start_tag, end_tag, slice, points, comment, taken}
use Rattle.hm_token_laws.specs.First.{Mode, ordinary, in_svg, rcdata, raw, script, after_bytes, first}

-- the bytes of a text: UTF-8, without zero byte and CR
pub record IsPlain (s : List ℕ) : Type 0 where
  pub bytes : all_pass is_text_byte s ≡ true
  pub utf8 : is_utf8 s ≡ true

-- names of references as a table holds them: each has its form, and one or two scalar values other than zero
pub record SoundNames (t : List Entry) : Type 0 where
  pub good : (e : Entry) → IsIn e t → is_good_name e.name ≡ true
  pub pointed : (e : Entry) → IsIn e t → are_points e.points ≡ true

-- an element whose text is read has a name that is read
abbrev pub IsMode : Mode → Type 0
IsMode (rcdata name) = is_tag_name name ≡ true
IsMode (raw name) = is_tag_name name ≡ true
IsMode mode = Unit {0}

-- whether tags, comments and doctypes are read
abbrev pub reads_markup : Mode → Bool
reads_markup ordinary = true
reads_markup in_svg = true
reads_markup mode = false

-- whether references are read in text
abbrev pub reads_references : Mode → Bool
reads_references (raw name) = false
reads_references script = false
reads_references mode = true

-- the end tag of a text is that of its element
abbrev pub EndsElement : Mode → List ℕ → Type 0
EndsElement (rcdata name) n = n ≡ name
EndsElement (raw name) n = n ≡ name
EndsElement script n = n ≡ codes "script"
EndsElement mode n = Unit {0}

-- The text of style, iframe and script is read as a whole: it ends where the end tag follows. A CDATA section of an SVG
-- element may be empty, no other text is.
abbrev pub IsWhole : Mode → List ℕ → Type 0
IsWhole in_svg s = Unit {0}
IsWhole (raw name) s = (is_null s ≡ false) × (raw_end name (s ++ settled.end_tag name) ≡ Some (length s))
IsWhole script s = (is_null s ≡ false) × (script_end (s ++ settled.end_tag (codes "script")) ≡ Some (length s))
IsWhole mode s = is_null s ≡ false

pub record IsStart (mode : Mode) (name : List ℕ) (attributes : List Attribute) : Type 0 where
  pub mode_reads : reads_markup mode ≡ true
  pub name_allowed : is_tag_name name ≡ true
  pub attributes_allowed : AttributesAllowed attributes

pub record IsEndTagOf (mode : Mode) (name : List ℕ) : Type 0 where
  pub name_allowed : is_tag_name name ≡ true
  pub ends : EndsElement mode name

pub record IsText (mode : Mode) (s : List ℕ) : Type 0 where
  pub whole : IsWhole mode s
  pub no_zero : has_byte 0 s ≡ false
  pub no_return : has_byte 13 s ≡ false
  pub utf8 : is_utf8 s ≡ true

pub record IsReference (mode : Mode) (ps : List ℕ) : Type 0 where
  pub mode_reads : reads_references mode ≡ true
  pub scalars : are_points ps ≡ true

pub record IsComment (mode : Mode) (s : List ℕ) : Type 0 where
  pub mode_reads : reads_markup mode ≡ true
  pub form : is_comment_text s ≡ true
  pub no_zero : has_byte 0 s ≡ false
  pub utf8 : is_utf8 s ≡ true

-- what is true of a token that is read in a mode
abbrev pub SoundToken : Mode → Seen → Type 0
SoundToken mode (doctype legacy) = reads_markup mode ≡ true
SoundToken mode (start_tag name attributes slash) = IsStart mode name attributes
SoundToken mode (end_tag name) = IsEndTagOf mode name
SoundToken mode (slice s) = IsText mode s
SoundToken mode (points ps) = IsReference mode ps
SoundToken mode (comment s) = IsComment mode s

-- Each token that is read from the text of a page is sound, and what follows it can be read on.
abbrev pub TokensAreSound : Type 0
TokensAreSound = (t : List Entry) (mode : Mode) (s : List ℕ) (n : ℕ) (token : Seen) (rest : List ℕ)
    → SoundNames t → IsMode mode → IsPlain s → first t mode s ≡ after_bytes n (taken token rest)
    → SoundToken mode token × IsPlain rest

-- ---- sizes, in bytes

-- the bytes of names, values, texts and comments that the token stands for
abbrev pub token_size : Seen → ℕ
token_size (doctype legacy) = 0
token_size (start_tag name attributes slash) = length name + attributes_size attributes
token_size (end_tag name) = 0
token_size (slice s) = length s
token_size (points ps) = length (encode_utf8_all ps)
token_size (comment s) = length s

-- the fewest bytes that a token of this kind is read from
abbrev pub least_size : Seen → ℕ
least_size (doctype legacy) = 10
least_size (start_tag name attributes slash) = 3
least_size (end_tag name) = 4
least_size (slice s) = 1
least_size (points ps) = 3
least_size (comment s) = 3

-- the most bytes that a token stands for, per byte that it is read from
abbrev pub growth : Seen → ℕ
growth (doctype legacy) = 3
growth (start_tag name attributes slash) = 3
growth (end_tag name) = 3
growth (slice s) = 1
growth (points ps) = 3
growth (comment s) = 3

-- the token stands after n bytes of s, and rest after the token
pub record TakesBytes (s : List ℕ) (n : ℕ) (token : Seen) (rest : List ℕ) : Type 0 where
  pub count : ℕ  -- the bytes of the token
  pub whole : length s ≡ n + count + length rest
  pub size : token_size token ≤ growth token * count
  pub least : least_size token ≤ count

-- Each token stands for at most three times the bytes that it is read from. Text as it is written stands for no more than
-- those.
abbrev pub TokensAreSmall : Type 0
TokensAreSmall = (t : List Entry) (mode : Mode) (s : List ℕ) (n : ℕ) (token : Seen) (rest : List ℕ)
    → SoundNames t → IsMode mode → first t mode s ≡ after_bytes n (taken token rest) → TakesBytes s n token rest
