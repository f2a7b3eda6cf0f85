-- Written tags, comments, doctypes and texts of elements are the next token, whatever follows them.
use Rattle.std.specs.Prelude.{◌≡◌, ℕ, Bool, true, false, List, ◌++◌, length, Some, codes}
use Rattle.hm_base.specs.Bytes.{is_null}
use Rattle.hm_base.specs.Forms.{is_tag_name, is_comment_text}
use Rattle.hm_base.specs.RawText.{begins_end_tag, raw_end, script_end}
use Rattle.hm_base.specs.Walks.{Attribute}
use Rattle.hm_refs.specs.Names.{Entry}
use Rattle.hm_markup_spec.specs.Doctypes.{WritesDoctype}
use Rattle.hm_markup_spec.specs.Tags.{WritesStart, WritesEnd}
use Rattle.hm_scan.specs.ReadBack.{WritesValue, IsAttributes}
use Rattle.hm_scan.specs.Texts.{begins_markup}
use Rattle.hm_tree.specs.Tokens.{Seen, doctype, start_tag, end_tag, slice, comment, taken}
use Rattle.hm_token_laws.specs.First.{Mode, rcdata, raw, script, after_bytes, first}
use Rattle.hm_token_laws.specs.Laws.{reads_markup}

-- the token begins with the first byte, and rest follows it
abbrev pub IsNext : List Entry → Mode → List ℕ → Seen → List ℕ → Type 0
IsNext t mode s token rest = first t mode s ≡ after_bytes 0 (taken token rest)

-- and markup begins with it, so that a text ends before it
abbrev pub IsNextMarkup : List Entry → Mode → List ℕ → Seen → List ℕ → Type 0
IsNextMarkup t mode s token rest = (begins_markup s ≡ true) × IsNext t mode s token rest

abbrev pub StartsAreNext : Type 0
StartsAreNext = (t : List Entry) (mode : Mode) (name : List ℕ) (attributes : List Attribute) (slash : Bool) (b after : List ℕ)
    → reads_markup mode ≡ true → is_tag_name name ≡ true → IsAttributes attributes → WritesStart (WritesValue t) true name attributes slash b after → IsNextMarkup t mode (b ++ after) (start_tag name attributes slash) after

abbrev pub EndsAreNext : Type 0
EndsAreNext = (t : List Entry) (mode : Mode) (name b after : List ℕ) → reads_markup mode ≡ true → is_tag_name name ≡ true → WritesEnd name b → IsNextMarkup t mode (b ++ after) (end_tag name) after

-- the text of the element with this name is read
abbrev pub IsTextOf : Mode → List ℕ → Type 0
IsTextOf (rcdata name) n = name ≡ n
IsTextOf (raw name) n = name ≡ n
IsTextOf script n = codes "script" ≡ n
IsTextOf mode n = ⊥

-- the end tag of an element with text, after the text
abbrev pub TextEndsAreNext : Type 0
TextEndsAreNext = (t : List Entry) (mode : Mode) (name b after : List ℕ) → IsTextOf mode name → is_tag_name name ≡ true → WritesEnd name b → IsNext t mode (b ++ after) (end_tag name) after

abbrev pub CommentsAreNext : Type 0
CommentsAreNext = (t : List Entry) (mode : Mode) (s after : List ℕ) → reads_markup mode ≡ true → is_comment_text s ≡ true → IsNextMarkup t mode (codes "<!--" ++ (s ++ (codes "-->" ++ after))) (comment s) after

abbrev pub DoctypesAreNext : Type 0
DoctypesAreNext = (t : List Entry) (mode : Mode) (legacy : Bool) (b after : List ℕ) → reads_markup mode ≡ true → WritesDoctype false legacy b → IsNextMarkup t mode (b ++ after) (doctype legacy) after

-- Where some end tag of the element ends a raw text that isn't empty, each one does.
abbrev pub RawTextsAreNext : Type 0
RawTextsAreNext = (t : List Entry) (name s some each : List ℕ)
    → is_null s ≡ false → raw_end name (s ++ some) ≡ Some (length s) → begins_end_tag name each ≡ true → IsNext t (raw name) (s ++ each) (slice s) each

abbrev pub ScriptsAreNext : Type 0
ScriptsAreNext = (t : List Entry) (s some each : List ℕ)
    → is_null s ≡ false → script_end (s ++ some) ≡ Some (length s) → begins_end_tag (codes "script") each ≡ true → IsNext t script (s ++ each) (slice s) each
