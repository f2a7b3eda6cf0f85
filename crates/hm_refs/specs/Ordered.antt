-- Tables that are read token by token. Only the crate's private clauses cite it.
use Rattle.std.specs.Prelude.{◌≡◌, ℕ, true, ◌≤◌, List, ◌∷◌, length, Some, None, option_and_then}
use Rattle.std.specs.Ordering.{is_lt, nat_cmp}
use Rattle.std.specs.Cmp.Lexicographic.{slice_cmp}
use Rattle.std.specs.List.Sorted.{IsStrictlySortedBy}
use Rattle.json.specs.Token.{Token}
use Rattle.json.specs.Json as json
use Rattle.json.specs.Json.{value, members}
use Rattle.serde_json.specs.Data.{Data, object, array, Items, Members}
use Rattle.serde_json.specs.Read.{number_of, of_json, of_members, max_depth}
use Rattle.serde_json.specs.Find.{as_u64, get_member}
use Rattle.hm_refs.specs.Names.{Entry}
use Rattle.hm_refs.specs.Json.{if_point, points_in, codepoints, entries_in, first_bad_name, first_bad_points, keys_in}

-- a stands before b in byte order
abbrev pub IsBefore : List ℕ → List ℕ → Type 0
IsBefore a b = is_lt (slice_cmp nat_cmp a b) ≡ true

-- the first token is a number that stands for the code point c
abbrev pub IsPoint : List Token → ℕ → List Token → Type 0
IsPoint old c new = (s : List ℕ) × (old ≡ Token.number s ∷ new) × (option_and_then if_point (option_and_then as_u64 (number_of s)) ≡ Some c)

-- the tokens `old` begin with the data d, nested no deeper than the number, and `new` follows
abbrev pub Begins : ℕ → List Token → Data → List Token → Type 0
Begins depth old d new = (j : json.Json) × (value depth old ≡ Some (j, new)) × (of_json j ≡ Some d)

-- members, up to the brace that closes their object, added to those that were found before give ms
abbrev pub Adds : ℕ → Members → ℕ → List Token → Members → List Token → Type 0
Adds depth found n old ms new = (js : json.Members) × (members (value depth) n old ≡ Some (js, new)) × (of_members js found ≡ Some ms)

abbrev pub ArePoints : List Token → List ℕ → List Token → Type 0
ArePoints old ps new = (ds : Items) × Begins 125 old (array ds) new × (points_in ds ≡ Some ps)

-- members up to the brace, none of which has the name k
abbrev pub Closes : List ℕ → List Token → List Token → Type 0
Closes k old new = (n : ℕ) (found : Members) → length old ≤ n → (ms : Members) × Adds 125 found n old ms new × (get_member k ms ≡ get_member k found)

-- an object that gives these code points
abbrev pub IsEntry : List Token → List ℕ → List Token → Type 0
IsEntry old ps new = (d : Data) × Begins 126 old d new × (codepoints d ≡ Some ps)

-- the members of a table that have no fault of their own, with their names in byte order
pub record AreEntries (ms : Members) (t : List Entry) : Type 0 where
  pub ascending : IsStrictlySortedBy (slice_cmp nat_cmp) (keys_in ms)
  pub named : first_bad_name ms ≡ None
  pub pointed : first_bad_points ms ≡ None
  pub same : entries_in ms ≡ t

-- an object whose members these are
abbrev pub IsTableOf : List Token → List Entry → List Token → Type 0
IsTableOf old t new = (ms : Members) × Begins max_depth old (object ms) new × AreEntries ms t
