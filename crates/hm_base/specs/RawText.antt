-- Where the text of style, iframe, title, textarea and script ends.
use Rattle.std.specs.Prelude.{ℕ, suc, Bool, true, false, ◌||◌, ◌==◌, List, [], ◌∷◌, Option, Some, None, if◌then◌else◌, codes}
use Rattle.hm_base.specs.Bytes.{is_space, head_is, strip, strip_word}

-- the byte ends the name of a tag: whitespace, '/' or '>'
unfoldable pub is_name_end : ℕ → Bool
is_name_end c = is_space c || c == 47 || c == 62

abbrev pub is_found : Option (List ℕ) → Bool
is_found None = false
is_found (Some rest) = true

-- a word was found, and what follows it ends a name
abbrev pub is_found_whole : Option (List ℕ) → Bool
is_found_whole None = false
is_found_whole (Some rest) = head_is is_name_end rest

-- an end tag with this name, in any ASCII case, begins here
unfoldable pub begins_end_tag : List ℕ → List ℕ → Bool
begins_end_tag name s = is_found_whole (strip_word (60 ∷ 47 ∷ name) s)

-- the first place whose rest passes; the first byte of the text has the place i
abbrev pub place_from : (List ℕ → Bool) → ℕ → List ℕ → Option ℕ
place_from passes i [] = None
place_from passes i (c ∷ s) = if passes (c ∷ s) then Some i else place_from passes (suc i) s

-- Where a raw text, or the text of title and textarea, ends (#rcdata-less-than-sign-state to
-- #rawtext-end-tag-name-state): the first place of an end tag with the element's name.
abbrev pub raw_end : List ℕ → List ℕ → Option ℕ
raw_end name s = place_from (begins_end_tag name) 0 s

-- the marks by which a script's text is read: `<!--`, `-->`, `<script` and `</script`
pub data Mark : Type 0 where
  opens_comment : Mark
  closes_comment : Mark
  opens_script : Mark
  closes_script : Mark

-- The mark that begins here. The names stand in any ASCII case before a byte that ends a name.
unfoldable pub mark_at : List ℕ → Option Mark
mark_at s =
    if is_found (strip (codes "<!--") s) then Some opens_comment
    else if is_found (strip (codes "-->") s) then Some closes_comment
    else if is_found_whole (strip_word (codes "<script") s) then Some opens_script
    else if is_found_whole (strip_word (codes "</script") s) then Some closes_script
    else None

pub record Marked : Type 0 where
  pub mark : Mark
  pub place : ℕ

abbrev pub with_mark : Option Mark → ℕ → List Marked → List Marked
with_mark None i marks = marks
with_mark (Some k) i marks = record { mark = k; place = i } ∷ marks

-- The marks of a text in order; its first byte has the place i. `<!--` and `-->` may share their dashes.
abbrev pub marks_from : ℕ → List ℕ → List Marked
marks_from i [] = []
marks_from i (c ∷ s) = with_mark (mark_at (c ∷ s)) i (marks_from (suc i) s)

-- How a script's text is read (#script-data-state and #script-data-less-than-sign-state to
-- #script-data-double-escape-end-state): as it is, in a comment, in a script in a comment.
pub data ScriptState : Type 0 where
  unescaped : ScriptState
  escaped : ScriptState
  double_escaped : ScriptState

-- the state after a mark
abbrev pub state_after : ScriptState → Mark → ScriptState
state_after unescaped opens_comment = escaped
state_after escaped closes_comment = unescaped
state_after double_escaped closes_comment = unescaped
state_after escaped opens_script = double_escaped
state_after double_escaped closes_script = escaped
state_after state mark = state

-- whether the script ends at this mark
abbrev pub ends_script : ScriptState → Mark → Bool
ends_script unescaped closes_script = true
ends_script escaped closes_script = true
ends_script state mark = false

-- the place of the first of these marks at which the script ends, from this state on
abbrev pub first_end : ScriptState → List Marked → Option ℕ
first_end state [] = None
first_end state (k ∷ ks) = if ends_script state k.mark then Some k.place else first_end (state_after state k.mark) ks

-- Where a script's text ends: the first place of `</script` that doesn't close a script in a comment.
abbrev pub script_end : List ℕ → Option ℕ
script_end s = first_end unescaped (marks_from 0 s)
