-- Text between markup, and in title and textarea (HTML Standard, #data-state, #rcdata-state and
-- #character-reference-state to #numeric-character-reference-end-state).
use Rattle.std.specs.Prelude.{ℕ, Bool, false, not, ◌&&◌, ◌||◌, ◌==◌, List, [], ◌∷◌, length, drop, Option, Some, None, is_some, if◌then◌else◌}
use Rattle.hm_base.specs.Bytes.{is_letter, is_null}
use Rattle.hm_refs.specs.Names.{Entry}
use Rattle.hm_refs.specs.References.{Reference, reference}
use Rattle.hm_tree.specs.Tokens.{Scanned, taken, slice, points}

-- after `<`: a letter, `!` or `?`, or a `/` that isn't the last byte
abbrev pub opens_markup : List ℕ → Bool
opens_markup [] = false
opens_markup (c ∷ s) = is_letter c || (c == 33 || (c == 63 || (c == 47 && not (is_null s))))

-- Markup begins here in ordinary text, `</>` among it, which stands for nothing.
unfoldable pub begins_markup : List ℕ → Bool
begins_markup [] = false
begins_markup (c ∷ s) = c == 60 && opens_markup s

-- the reference of a text that begins with the byte c
unfoldable pub reference_in : List Entry → ℕ → List ℕ → Option Reference
reference_in t c s = if c == 38 then reference t false (c ∷ s) else None

-- A plain text ends before the byte c: markup begins there, where it may, or a reference.
abbrev pub ends_plain : List Entry → Bool → ℕ → List ℕ → Bool
ends_plain t rcdata c s = (not rcdata && begins_markup (c ∷ s)) || is_some (reference_in t c s)

-- the longest prefix in which no markup begins and no reference
abbrev pub plain_front : List Entry → Bool → List ℕ → List ℕ
plain_front t rcdata [] = []
plain_front t rcdata (c ∷ s) = if ends_plain t rcdata c s then [] else c ∷ plain_front t rcdata s

abbrev pub read_plain : List Entry → Bool → List ℕ → Scanned
read_plain t rcdata s = taken (slice (plain_front t rcdata s)) (drop (length (plain_front t rcdata s)) s)

abbrev pub read_by : Option Reference → List Entry → Bool → List ℕ → Scanned
read_by None t rcdata s = read_plain t rcdata s
read_by (Some r) t rcdata s = taken (points r.points) (drop r.len s)

-- The piece of text that begins here, where no markup does: one reference, or the longest prefix without reference and
-- markup. In title and textarea, whose whole text is s, nothing is markup.
unfoldable pub read_text : List Entry → Bool → List ℕ → Scanned
read_text t rcdata [] = read_plain t rcdata []
read_text t rcdata (c ∷ s) = read_by (reference_in t c s) t rcdata (c ∷ s)
