-- A table of names: what holds of every one, and how a contract sees it with its trie.
use Rattle.std.specs.Prelude.{◌≡◌, ℕ, suc, ◌<◌, ◌≤◌, Bool, true, false, not, ◌&&◌, ◌||◌, ◌==◌, nat_lt, nat_le, List, [], ◌∷◌, ◌++◌, map, length, Some, option_to_list, if◌then◌else◌, slice_index_or, count_by, drop}
use Rattle.std.specs.Ordering.{nat_cmp}
use Rattle.std.specs.Cmp.Lexicographic.{slice_cmp}
use Rattle.std.specs.List.{list_all}
use Rattle.std.specs.List.Sorted.{IsStrictlySortedBy}
use Rattle.hm_base.specs.Bytes.{head_is, is_null}
use Rattle.hm_base.specs.declared.plain.Points.{Points}
use Rattle.hm_refs.specs.declared.limits.TheConstants.{ALIKE_LIMIT, NAMES_LIMIT, OPEN_LIMIT}
use Rattle.hm_refs.specs.Names.{Entry, points_of, is_front, is_closed, is_good_name, Found}

pub data IsIn {A : Type 0} (x : A) : List A → Type 0 where
  first : (xs : List A) → IsIn x (x ∷ xs)
  later : (y : A) (xs : List A) → IsIn x xs → IsIn x (y ∷ xs)

-- a code point that is no surrogate
abbrev pub is_scalar : ℕ → Bool
is_scalar c = nat_lt c 0xD800 || (nat_le 0xE000 c && nat_le c 0x10FFFF)

-- what a name may stand for: a scalar value other than zero
abbrev pub is_point : ℕ → Bool
is_point c = not (c == 0) && is_scalar c

-- one or two of them
abbrev pub are_points : List ℕ → Bool
are_points [] = false
are_points (a ∷ []) = is_point a
are_points (a ∷ b ∷ []) = is_point a && is_point b
are_points (a ∷ b ∷ c ∷ ps) = false

-- the name's first code point is c
abbrev pub is_for : ℕ → Entry → Bool
is_for c e = head_is (λ p. p == c) e.points

abbrev pub is_open_for : ℕ → Entry → Bool
is_open_for c e = is_for c e && not (is_closed e.name)

-- the places, counted from i on, of the names whose first code point is c
abbrev pub places_from : ℕ → ℕ → List Entry → List ℕ
places_from c i [] = []
places_from c i (e ∷ t) = if is_for c e then i ∷ places_from c (suc i) t else places_from c (suc i) t

-- the places of the names whose first code point is c, in order
unfoldable pub places_for : ℕ → List Entry → List ℕ
places_for c t = places_from c 0 t

abbrev pub names_in : List Entry → List (List ℕ)
names_in t = map (λ e. e.name) t

-- what holds of the names of every table
pub record IsTable (t : List Entry) : Type 0 where
  pub ascending : IsStrictlySortedBy (slice_cmp nat_cmp) (names_in t)
  pub own : (e : Entry) → IsIn e t → points_of t e.name ≡ Some e.points
  pub good : (e : Entry) → IsIn e t → is_good_name e.name ≡ true
  pub pointed : (e : Entry) → IsIn e t → are_points e.points ≡ true
  pub paired : (e : Entry) → IsIn e t → is_closed e.name ≡ false → points_of t (e.name ++ 59 ∷ []) ≡ Some e.points
  pub few : length t ≤ NAMES_LIMIT
  pub few_for : (c : ℕ) → (count_by (is_for c) t ≤ ALIKE_LIMIT) × (count_by (is_open_for c) t ≤ OPEN_LIMIT)

-- ---- with its trie

-- The names in byte order, and for each node the bytes that lead to it. A name's number is its place, and so is a node's.
pub record TableView : Type 0 where
  pub entries : List Entry
  pub fronts : List (List ℕ)

abbrev pub no_entry : Entry
no_entry = record { name = []; points = [] }

-- the name with this number
abbrev pub entry_at : List Entry → ℕ → Entry
entry_at t i = slice_index_or t i no_entry

-- the bytes that lead to a node
abbrev pub front_at : TableView → ℕ → List ℕ
front_at v n = slice_index_or v.fronts n []

-- n is a node, and the only one that its bytes lead to
pub record IsNode (v : TableView) (n : ℕ) : Type 0 where
  pub inside : n < length v.fronts
  pub only : (m : ℕ) → m < length v.fronts → front_at v m ≡ front_at v n → m ≡ n

-- a node that these bytes lead to
abbrev pub NodeAt : TableView → List ℕ → Type 0
NodeAt v q = (n : ℕ) × (n < length v.fronts) × (front_at v n ≡ q)

-- what holds of the nodes of every table
pub record IsTrie (v : TableView) : Type 0 where
  pub nodes : (n : ℕ) → n < length v.fronts → IsNode v n
  pub some : (n : ℕ) → n < length v.fronts → is_null (front_at v n) ≡ false
  pub root : NodeAt v (38 ∷ [])
  pub all : (q : List ℕ) → is_null q ≡ false → is_front v.entries q ≡ true → NodeAt v q

abbrev pub points_list : Points → List ℕ
points_list p = p.first ∷ option_to_list p.second

-- the name with this number at the start of s
abbrev pub found_at : List Entry → ℕ → List ℕ → Found
found_at t i s = record { name = (entry_at t i).name; points = (entry_at t i).points; rest = drop (length (entry_at t i).name) s }

-- names in byte order, each of its form and with its code points
pub record IsGathered (t : List Entry) : Type 0 where
  pub ascending : IsStrictlySortedBy (slice_cmp nat_cmp) (names_in t)
  pub good : list_all (λ (e : Entry). is_good_name e.name) t ≡ true
  pub pointed : list_all (λ (e : Entry). are_points e.points) t ≡ true
