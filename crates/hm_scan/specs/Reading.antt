-- Tags as tokens, or why they are refused.
use Rattle.std.specs.Prelude.{ℕ, Bool, false, not, ◌&&◌, ◌||◌, ◌==◌, nat_le, nat_lt, List, [], ◌∷◌, map, length, drop, Option, Some, None, if◌then◌else◌, bytes_eq, codes}
use Rattle.hm_base.specs.Bytes.{front, rest_after, strip, head_is, some_passes, lower, is_letter}
use Rattle.hm_base.specs.Forms.{is_tag_name}
use Rattle.hm_base.specs.Walks.{Attribute}
use Rattle.hm_base.specs.declared.limits.TheConstants.{ATTRIBUTE_LIMIT}
use Rattle.hm_refs.specs.Names.{Entry}
use Rattle.hm_tree.specs.Tokens.{Seen, start_tag, end_tag, Scanned, taken, refused}
use Rattle.hm_tree.specs.declared.tokens.ScanFault.{ScanFault}
use Rattle.hm_tree.specs.declared.tokens.ScanFault.TheVariants as faults
use Rattle.hm_scan.specs.Values.{read_value}
use Rattle.hm_scan.specs.Tags.{CutTag, cut_tag, is_name_byte}

-- the most attributes that may be written in one tag
abbrev pub attribute_limit : ℕ
attribute_limit = ATTRIBUTE_LIMIT

-- an ASCII uppercase letter
unfoldable pub is_capital : ℕ → Bool
is_capital c = nat_le 65 c && nat_le c 90

-- a quote or '<'
unfoldable pub is_bad_byte : ℕ → Bool
is_bad_byte c = c == 34 || c == 39 || c == 60

abbrev pub is_equals : ℕ → Bool
is_equals c = c == 61

-- a name of an attribute that isn't read: it begins with '=', or holds a quote or '<'
abbrev pub is_bad_name : List ℕ → Bool
is_bad_name n = head_is is_equals n || some_passes is_bad_byte n

abbrev pub has_bad_name : List Attribute → Bool
has_bad_name [] = false
has_bad_name (a ∷ attributes) = is_bad_name a.name || has_bad_name attributes

-- Why a tag with this name and these attributes is refused, if it is.
unfoldable pub tag_fault : List ℕ → List Attribute → Option ScanFault
tag_fault name attributes =
    if not (is_tag_name name) || has_bad_name attributes then Some faults.BadName
    else if nat_lt attribute_limit (length attributes) then Some faults.TooManyAttributes
    else None

-- the name in lowercase letters, the value as it is read
abbrev pub read_attribute : List Entry → Attribute → Attribute
read_attribute t a = record { name = map lower a.name; value = read_value t a.value }

-- those with another name
abbrev pub without_name : List ℕ → List Attribute → List Attribute
without_name n [] = []
without_name n (a ∷ attributes) = if bytes_eq a.name n then without_name n attributes else a ∷ without_name n attributes

-- of the attributes with one name the first
abbrev pub without_repeats : List Attribute → List Attribute
without_repeats [] = []
without_repeats (a ∷ attributes) = a ∷ without_name a.name (without_repeats attributes)

-- the attributes that the written ones stand for
abbrev pub read_attributes : List Entry → List Attribute → List Attribute
read_attributes t attributes = without_repeats (map (read_attribute t) attributes)

abbrev pub unless_fault : Option ScanFault → Seen → List ℕ → Scanned
unless_fault None token rest = taken token rest
unless_fault (Some fault) token rest = refused fault

abbrev pub start_of : List Entry → List ℕ → Option CutTag → Scanned
start_of t name None = refused faults.Cut
start_of t name (Some g) = unless_fault (tag_fault name g.attributes) (start_tag name (read_attributes t g.attributes) g.slash) g.rest

abbrev pub end_of : List ℕ → Option CutTag → Scanned
end_of name None = refused faults.Cut
end_of name (Some g) = unless_fault (tag_fault name g.attributes) (end_tag name) g.rest

abbrev pub tag_name : List ℕ → List ℕ
tag_name s = map lower (front is_name_byte s)

-- a start tag after its '<'
unfoldable pub read_start : List Entry → List ℕ → Scanned
read_start t s = start_of t (tag_name s) (cut_tag (rest_after is_name_byte s))

-- an end tag after its `</`: its attributes and its '/' are dropped
unfoldable pub read_end : List ℕ → Scanned
read_end s = end_of (tag_name s) (cut_tag (rest_after is_name_byte s))

abbrev pub read_by : List Entry → Option (List ℕ) → List ℕ → Scanned
read_by t None s = read_start t s
read_by t (Some r) s = read_end r

-- the tag that begins here
unfoldable pub read_tag : List Entry → List ℕ → Scanned
read_tag t s = read_by t (strip (codes "</") s) (drop 1 s)

abbrev pub followed_by_letter : Option (List ℕ) → Bool
followed_by_letter None = false
followed_by_letter (Some s) = head_is is_letter s

-- a tag begins here: '<' or `</`, and a letter
unfoldable pub begins_tag : List ℕ → Bool
begins_tag s = followed_by_letter (strip (codes "<") s) || followed_by_letter (strip (codes "</") s)
