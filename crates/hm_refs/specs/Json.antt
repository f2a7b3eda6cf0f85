-- The names that JSON gives (HTML Standard, #named-character-references), or the first fault that keeps it from being a
-- table.
use Rattle.std.specs.Prelude.{ℕ, min, Bool, false, not, ◌&&◌, ◌||◌, nat_lt, List, [], ◌∷◌, ◌++◌, length, Option, Some, None, option_map, option_and_then, is_some, Result, Ok, Err, if◌then◌else◌, bytes_eq, count_by, codes}
use Rattle.std.specs.Str.{is_utf8}
use Rattle.serde_json.specs.Data.{Data, Items, no_items, item, Members, no_members, member}
use Rattle.serde_json.specs.Read.{read}
use Rattle.serde_json.specs.Find.{get, as_number, as_u64, as_array, as_object}
use Rattle.hm_base.specs.declared.limits.TheConstants.{TABLE_LIMIT}
use Rattle.hm_refs.specs.declared.limits.TheConstants.{ALIKE_LIMIT, NAMES_LIMIT, OPEN_LIMIT}
use Rattle.hm_refs.specs.Names.{Entry, points_of, is_closed, is_good_name}
use Rattle.hm_refs.specs.Tables.{is_point, is_for, is_open_for}
use Rattle.hm_refs.specs.declared.fault.TableFault.{TableFault}
use Rattle.hm_refs.specs.declared.fault.TableFault.TheVariants.{TooLong, NotJson, NotObject, BadName, BadPoints, TooMany, TooManyFor, Lone}

-- the value of the bytes, where they are UTF-8 and JSON
unfoldable pub json : List ℕ → Option Data
json bytes = if is_utf8 bytes then read bytes else None

-- ---- what a name stands for

abbrev pub if_point : ℕ → Option ℕ
if_point n = if is_point n then Some n else None

-- a whole number without point or exponent that a name may stand for
abbrev pub point_in : Data → Option ℕ
point_in d = option_and_then if_point (option_and_then as_u64 (as_number d))

abbrev pub points_in : Items → Option (List ℕ)
points_in no_items = None
points_in (item a no_items) = option_map (λ p. p ∷ []) (point_in a)
points_in (item a (item b no_items)) = option_and_then (λ p. option_map (λ q. p ∷ q ∷ []) (point_in b)) (point_in a)
points_in (item a (item b (item c ds))) = None

-- the member `codepoints` of an object, an array of one or two of them
unfoldable pub codepoints : Data → Option (List ℕ)
codepoints d = option_and_then points_in (option_and_then as_array (get (codes "codepoints") d))

abbrev pub with_entry : List ℕ → Option (List ℕ) → List Entry → List Entry
with_entry k None t = t
with_entry k (Some ps) t = record { name = k; points = ps } ∷ t

-- one entry more, the last
abbrev pub and_entry : List Entry → List ℕ → List ℕ → List Entry
and_entry t k ps = t ++ record { name = k; points = ps } ∷ []

abbrev pub entries_in : Members → List Entry
entries_in no_members = []
entries_in (member k d ms) = with_entry k (codepoints d) (entries_in ms)

-- ---- faults; the members stand in the byte order of their keys, so that the first key is the least

abbrev pub first_bad_name : Members → Option (List ℕ)
first_bad_name no_members = None
first_bad_name (member k d ms) = if is_good_name k then first_bad_name ms else Some k

abbrev pub first_bad_points : Members → Option (List ℕ)
first_bad_points no_members = None
first_bad_points (member k d ms) = if is_some (codepoints d) then first_bad_points ms else Some k

-- more names have the first code point c than may, or more of those without ';'
abbrev pub is_crowded : List Entry → ℕ → Bool
is_crowded t c = nat_lt ALIKE_LIMIT (count_by (is_for c) t) || nat_lt OPEN_LIMIT (count_by (is_open_for c) t)

abbrev pub lesser : Option ℕ → Option ℕ → Option ℕ
lesser None b = b
lesser (Some a) None = Some a
lesser (Some a) (Some b) = Some (min a b)

abbrev pub if_crowded : List Entry → List ℕ → Option ℕ
if_crowded t [] = None
if_crowded t (c ∷ ps) = if is_crowded t c then Some c else None

-- the least first code point of these names that the table has too many names for
abbrev pub least_crowded : List Entry → List Entry → Option ℕ
least_crowded t [] = None
least_crowded t (e ∷ es) = lesser (if_crowded t e.points) (least_crowded t es)

abbrev pub are_same : Option (List ℕ) → List ℕ → Bool
are_same None ps = false
are_same (Some qs) ps = bytes_eq qs ps

-- a name without ';' whose form with ';' isn't there with the same code points
abbrev pub is_lone : List Entry → Entry → Bool
is_lone t e = not (is_closed e.name) && not (are_same (points_of t (e.name ++ 59 ∷ [])) e.points)

-- the first of these names that stands alone in the table
abbrev pub first_lone : List Entry → List Entry → Option (List ℕ)
first_lone t [] = None
first_lone t (e ∷ es) = if is_lone t e then Some e.name else first_lone t es

-- ---- the table

abbrev pub unless : {A : Type 0} → Option A → (A → TableFault) → Result (List Entry) TableFault → Result (List Entry) TableFault
unless None fault r = r
unless (Some a) fault r = Err (fault a)

abbrev pub checked : List Entry → Result (List Entry) TableFault
checked t = if nat_lt NAMES_LIMIT (length t) then Err TooMany else unless (least_crowded t t) TooManyFor (unless (first_lone t t) Lone (Ok t))

abbrev pub names_of_members : Members → Result (List Entry) TableFault
names_of_members ms = unless (first_bad_name ms) BadName (unless (first_bad_points ms) BadPoints (checked (entries_in ms)))

abbrev pub names_of_object : Option Members → Result (List Entry) TableFault
names_of_object None = Err NotObject
names_of_object (Some ms) = names_of_members ms

abbrev pub names_of_data : Option Data → Result (List Entry) TableFault
names_of_data None = Err NotJson
names_of_data (Some d) = names_of_object (as_object d)

-- the names in byte order that the bytes of a table give, or the first of its faults
unfoldable pub names : List ℕ → Result (List Entry) TableFault
names bytes = if nat_lt TABLE_LIMIT (length bytes) then Err TooLong else names_of_data (json bytes)

-- ---- the keys of an object

abbrev pub keys_in : Members → List (List ℕ)
keys_in no_members = []
keys_in (member k d ms) = k ∷ keys_in ms
