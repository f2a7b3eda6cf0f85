-- The names by their first code points, as the code keeps them.
use Rattle.std.specs.Prelude.{◌≡◌, ℕ, Bool, not, ◌||◌, ◌==◌, nat_lt, List, [], ◌∷◌, length, count_by, Vec, if◌then◌else◌}
use Rattle.std.specs.Ordering.{nat_cmp}
use Rattle.std.specs.Option.{option_map_or}
use Rattle.std.specs.List.Sorted.{IsNonDecreasing}
use Rattle.std.specs.BTreeMap.{BTreeMap, get}
use Rattle.std.specs.declared.alloc.Global.{Global}
use Rattle.hm_refs.specs.declared.limits.TheConstants.{ALIKE_LIMIT, OPEN_LIMIT}
use Rattle.hm_refs.specs.declared.index.Index.{Index}
use Rattle.hm_refs.specs.declared.index.Index.TheVariants.{Gathered, Sorted}
use Rattle.hm_refs.specs.Names.{Entry, is_closed}
use Rattle.hm_refs.specs.Tables.{places_for, entry_at}

-- the map gives for each code point the places of the names that it begins
abbrev pub IsIndex : List Entry → BTreeMap ℕ (Vec ℕ Global) → Type 0
IsIndex t m = (c : ℕ) → option_map_or (λ (v : Vec ℕ Global). v.items) (get nat_cmp m c) [] ≡ places_for c t

-- the numbers among these whose code point is c
abbrev pub selected : ℕ → List ℕ → List ℕ → List ℕ
selected c [] is = []
selected c (p ∷ ps) [] = []
selected c (p ∷ ps) (i ∷ is) = if p == c then i ∷ selected c ps is else selected c ps is

-- The names by their numbers, in the order of their first code points, which stand beside them. Names with the same one
-- stand in byte order.
pub record IsInOrder (t : List Entry) (points names : List ℕ) : Type 0 where
  pub ascending : IsNonDecreasing points
  pub as_long : length names ≡ length points
  pub all : (c : ℕ) → selected c points names ≡ places_for c t

abbrev pub IsIndexed : List Entry → Index → Type 0
IsIndexed t (Gathered m) = IsIndex t m
IsIndexed t (Sorted s) = IsInOrder t s.points.now s.names.items

-- the name with this number has no ';'
abbrev pub is_open_at : List Entry → ℕ → Bool
is_open_at t id = not (is_closed (entry_at t id).name)

-- these are more names than may be alike, or more without ';'
abbrev pub are_many : List Entry → List ℕ → Bool
are_many t ids = nat_lt ALIKE_LIMIT (length ids) || nat_lt OPEN_LIMIT (count_by (is_open_at t) ids)
