-- The plain reading of the longest name and of the best number, the lengths of references, and what a table's bytes give.
use Rattle.std.specs.Prelude.{◌≡◌, ℕ, ◌+◌, ◌≤◌, Bool, true, false, ◌&&◌, nat_le, List, [], ◌∷◌, ◌++◌, length, Some, None, Ok, if◌then◌else◌, codes}
use Rattle.std.specs.Fmt.{decimal, digits}
use Rattle.std.specs.Ordering.{nat_cmp}
use Rattle.std.specs.Cmp.Lexicographic.{slice_cmp}
use Rattle.std.specs.List.Sorted.{IsStrictlySortedBy}
use Rattle.serde_json.specs.Data.{Data, Members}
use Rattle.serde_json.specs.Find.{as_object}
use Rattle.hm_base.specs.Bytes.{all_pass, is_digit_of, is_null}
use Rattle.hm_refs.specs.Names.{Entry, points_of, is_name, Found, longest}
use Rattle.hm_refs.specs.Numbers.{point_of, best_number}
use Rattle.hm_refs.specs.References.{value_of}
use Rattle.hm_refs.specs.Tables.{IsTable}
use Rattle.hm_refs.specs.Json.{json, keys_in, names}

-- f is a name that s begins with, with its points and what follows it, and no longer name is one
pub record IsLongest (t : List Entry) (s : List ℕ) (f : Found) : Type 0 where
  pub cut : f.name ++ f.rest ≡ s
  pub own : points_of t f.name ≡ Some f.points
  pub longest : (q r : List ℕ) → q ++ r ≡ s → is_name t q ≡ true → length q ≤ length f.name

abbrev pub LongestIsLongest : Type 0
LongestIsLongest = (t : List Entry) (s : List ℕ) (f : Found) → longest t s ≡ Some f → IsLongest t s f

-- where there is none, s begins with no name
abbrev pub NoneIsLongest : Type 0
NoneIsLongest = (t : List Entry) (s : List ℕ) → longest t s ≡ None → (q r : List ℕ) → q ++ r ≡ s → is_name t q ≡ false

-- n gives the code point c, and no smaller number does
pub record IsBestNumber (c n : ℕ) : Type 0 where
  pub gives : point_of n ≡ c
  pub least : (m : ℕ) → point_of m ≡ c → n ≤ m

abbrev pub BestIsLeast : Type 0
BestIsLeast = (c n : ℕ) → best_number c ≡ Some n → IsBestNumber c n

-- where there is none, no number gives c
abbrev pub NoneIsBest : Type 0
NoneIsBest = (c : ℕ) → best_number c ≡ None → (m : ℕ) → ¬ (point_of m ≡ c)

-- ---- lengths of references by number

-- digits of a base that write a number with the code point c; zeros may lead, and letters are of either case
pub record Gives (base : ℕ) (ds : List ℕ) (c : ℕ) : Type 0 where
  pub some : is_null ds ≡ false
  pub digits : all_pass (is_digit_of base) ds ≡ true
  pub value : point_of (value_of base ds) ≡ c

abbrev pub end_of : Bool → List ℕ
end_of closed = if closed then 59 ∷ [] else []

-- a reference by decimal digits, with or without its ';'
abbrev pub decimal_reference : List ℕ → Bool → List ℕ
decimal_reference ds closed = codes "&#" ++ ds ++ end_of closed

-- a reference by hexadecimal digits after an 'x' or 'X', with or without its ';'
abbrev pub hexadecimal_reference : ℕ → List ℕ → Bool → List ℕ
hexadecimal_reference x ds closed = codes "&#" ++ x ∷ ds ++ end_of closed

-- five hexadecimal digits are two fewer than the decimal ones
abbrev pub is_shorter_in_hexadecimal : ℕ → Bool
is_shorter_in_hexadecimal c = nat_le 1000000 c && nat_le c 1048575

-- the decimal digits of n give c, and except for a few code points no reference by number is shorter
pub record IsShortestNumber (c n : ℕ) : Type 0 where
  pub gives : Gives 10 (decimal n) c
  pub decimals : (ds : List ℕ) (closed : Bool) → Gives 10 ds c → length (decimal_reference (decimal n) closed) ≤ length (decimal_reference ds closed)
  pub hexadecimals : is_shorter_in_hexadecimal c ≡ false → (x : ℕ) (ds : List ℕ) (closed : Bool) → Gives 16 ds c → length (decimal_reference (decimal n) closed) ≤ length (hexadecimal_reference x ds closed)

abbrev pub BestIsShortest : Type 0
BestIsShortest = (c n : ℕ) → best_number c ≡ Some n → IsShortestNumber c n

-- for those the hexadecimal digits of c give it, are shorter by one byte, and no others are shorter
pub record IsShorter (c : ℕ) : Type 0 where
  pub best : best_number c ≡ Some c
  pub gives : Gives 16 (digits 16 false c) c
  pub by_one : (x : ℕ) (closed : Bool) → length (hexadecimal_reference x (digits 16 false c) closed) + 1 ≡ length (decimal_reference (decimal c) closed)
  pub shortest : (x : ℕ) (ds : List ℕ) (closed : Bool) → Gives 16 ds c → length (hexadecimal_reference x (digits 16 false c) closed) ≤ length (hexadecimal_reference x ds closed)

abbrev pub HexadecimalIsShorter : Type 0
HexadecimalIsShorter = (c : ℕ) → is_shorter_in_hexadecimal c ≡ true → IsShorter c

-- ---- what a table's bytes give

-- the keys of a JSON object ascend in byte order, so that the first with a fault is the least
abbrev pub KeysAscend : Type 0
KeysAscend = (bytes : List ℕ) (d : Data) (ms : Members) → json bytes ≡ Some d → as_object d ≡ Some ms → IsStrictlySortedBy (slice_cmp nat_cmp) (keys_in ms)

-- the names that bytes without a fault give are a table
abbrev pub NamesAreTable : Type 0
NamesAreTable = (bytes : List ℕ) (t : List Entry) → names bytes ≡ Ok t → IsTable t
