-- The nodes of a trie, as the code keeps them.
use Rattle.std.specs.Prelude.{◌≡◌, ℕ, suc, ◌+◌, ◌*◌, ◌<◌, ◌≤◌, ◌⊎◌, ◌==◌, true, false, is_some, List, [], ◌∷◌, ◌++◌, map, take, drop, length, Option, Some, None, option_map, IfSome, MatchOption, if◌then◌else◌, slice_index_or, slice_set, bytes_eq}
use Rattle.std.specs.Ordering.{nat_cmp}
use Rattle.std.specs.Cmp.Lexicographic.{slice_cmp}
use Rattle.std.specs.List.Sorted.{IsStrictlySortedBy}
use Rattle.hm_base.specs.Bytes.{is_null}
use Rattle.hm_refs.specs.declared.limits.TheConstants.{LENGTH_LIMIT, NAMES_LIMIT}
use Rattle.hm_refs.specs.Names.{Entry, is_front, or_else, found_longer, longest}
use Rattle.hm_refs.specs.Tables.{names_in, entry_at, points_list, found_at, TableView, front_at}
use Rattle.hm_refs.specs.declared.nodes.ReferenceName.{ReferenceName}
use Rattle.hm_refs.specs.declared.nodes.TrieNode.{TrieNode}

abbrev pub entry_of : ReferenceName → Entry
entry_of n = record { name = n.text; points = points_list n.points }

abbrev pub entries_of : List ReferenceName → List Entry
entries_of names = map entry_of names

-- the bytes that lead to a node
unfoldable pub front_in : List Entry → TrieNode → List ℕ
front_in t x = 38 ∷ take x.depth (drop 1 (entry_at t x.name).name)

abbrev pub fronts_of : List Entry → List TrieNode → List (List ℕ)
fronts_of t nodes = map (front_in t) nodes

-- the place of the first of these lists that is q
abbrev pub place : List ℕ → List (List ℕ) → Option ℕ
place q [] = None
place q (f ∷ fs) = if bytes_eq f q then Some 0 else option_map suc (place q fs)

-- ---- children: the nodes from `first` on, `count` of them

-- m is among the children of x
abbrev pub IsAmong : TrieNode → ℕ → Type 0
IsAmong x m = (x.first ≤ m) × (m < x.first + x.count)

-- a child that this byte leads to
pub record IsChildBy (nodes : List TrieNode) (x : TrieNode) (byte m : ℕ) : Type 0 where
  pub among : IsAmong x m
  pub by : (y : TrieNode) → slice_index_or nodes m y ≡ y → y.byte ≡ byte

-- no child is one
abbrev pub HasNoChildBy : List TrieNode → TrieNode → ℕ → Type 0
HasNoChildBy nodes x byte = (m : ℕ) (y : TrieNode) → IsAmong x m → slice_index_or nodes m y ≡ y → y.byte ≡ byte → ⊥

-- the children of each node are there
abbrev pub AreWithin : List TrieNode → Type 0
AreWithin nodes = (n : ℕ) (x : TrieNode) → n < length nodes → slice_index_or nodes n x ≡ x → x.first + x.count ≤ length nodes

-- the child of the node at this place by a byte, or none
abbrev pub IsFound : List TrieNode → ℕ → ℕ → Option ℕ → Type 0
IsFound nodes at byte o = (x : TrieNode) → slice_index_or nodes at x ≡ x → MatchOption o (HasNoChildBy nodes x byte) (IsChildBy nodes x byte)

-- x with one child more, the last
abbrev pub adopted : TrieNode → ℕ → TrieNode
adopted x child = record x { first = if x.count == 0 then child else x.first; count = x.count + 1 }

-- the child was there
pub record Finds (old new : List TrieNode) (at byte child : ℕ) : Type 0 where
  pub node : TrieNode
  pub is : slice_index_or old at node ≡ node
  pub known : IsChildBy old node byte child
  pub same : new ≡ old

-- the child was made after all others
pub record Makes (old new : List TrieNode) (at byte name depth child : ℕ) : Type 0 where
  pub node : TrieNode
  pub is : slice_index_or old at node ≡ node
  pub unknown : HasNoChildBy old node byte
  pub last : child ≡ length old
  pub nodes : new ≡ slice_set (old ++ record { name = name; depth = depth; ends = None; byte = byte; first = 0; count = 0 } ∷ []) at (adopted node child)

abbrev pub Steps : List TrieNode → List TrieNode → ℕ → ℕ → ℕ → ℕ → ℕ → Type 0
Steps old new at byte name depth child = Finds old new at byte child ⊎ Makes old new at byte name depth child

-- each of these lists differs from those before it
abbrev pub AreApart : List (List ℕ) → Type 0
AreApart fs = (n : ℕ) → n < length fs → place (slice_index_or fs n []) fs ≡ Some n

-- the children of x are the nodes that its bytes and one more lead to
pub record IsKin (t : List Entry) (nodes : List TrieNode) (x : TrieNode) : Type 0 where
  pub within : x.first + x.count ≤ length nodes
  pub down : (m : ℕ) (y : TrieNode) → IsAmong x m → slice_index_or nodes m y ≡ y → front_in t y ≡ front_in t x ++ y.byte ∷ []
  pub all : (m : ℕ) (y : TrieNode) (c : ℕ) → m < length nodes → slice_index_or nodes m y ≡ y → front_in t y ≡ front_in t x ++ c ∷ [] → IsAmong x m

-- The nodes are apart, each is the root or a prefix of a name, with all of its own prefixes from '&' on, and has its
-- children side by side.
pub record IsWeb (t : List Entry) (nodes : List TrieNode) : Type 0 where
  pub some : 0 < length nodes
  pub root : slice_index_or (fronts_of t nodes) 0 [] ≡ 38 ∷ []
  pub apart : AreApart (fronts_of t nodes)
  pub kin : (n : ℕ) (x : TrieNode) → n < length nodes → slice_index_or nodes n x ≡ x → IsKin t nodes x
  pub closed : (q : List ℕ) (c : ℕ) → is_null q ≡ false → is_some (place (q ++ c ∷ []) (fronts_of t nodes)) ≡ true → is_some (place q (fronts_of t nodes)) ≡ true
  pub led : (n : ℕ) (x : TrieNode) → n < length nodes → slice_index_or nodes n x ≡ x → (front_in t x ≡ 38 ∷ []) ⊎ (is_front t (front_in t x) ≡ true)

-- each node says which of the first k names ends there
abbrev pub HasEnds : List Entry → ℕ → List TrieNode → Type 0
HasEnds t k nodes = (n : ℕ) (x : TrieNode) → n < length nodes → slice_index_or nodes n x ≡ x → x.ends ≡ place (front_in t x) (names_in (take k t))

-- '&' stands first, and there are at least three bytes, and no more than may
pub record IsShort (name : List ℕ) : Type 0 where
  pub begins : name ≡ 38 ∷ drop 1 name
  pub long : 3 ≤ length name
  pub short : length name ≤ LENGTH_LIMIT

-- what the names have to be for a trie
pub record AreNames (t : List Entry) : Type 0 where
  pub apart : AreApart (names_in t)
  pub short : (i : ℕ) → i < length t → IsShort (entry_at t i).name
  pub few : length t ≤ NAMES_LIMIT
  pub ascending : IsStrictlySortedBy (slice_cmp nat_cmp) (names_in t)

-- ---- a trie that grows byte by byte of all names

-- what follows the first byte of the name i
abbrev pub tail_at : List Entry → ℕ → List ℕ
tail_at t i = drop 1 (entry_at t i).name

-- '&' and d bytes more of the name i
abbrev pub front_to : List Entry → ℕ → ℕ → List ℕ
front_to t i d = 38 ∷ take d (tail_at t i)

-- the node where the name i stands
abbrev pub place_at : List ℕ → ℕ → ℕ
place_at places i = slice_index_or places i 0

-- a name before the name j has the same d bytes after '&' as the name i
abbrev pub IsMet : List Entry → ℕ → ℕ → ℕ → Type 0
IsMet t d j i = (h : ℕ) × (h < j) × (front_to t h d ≡ front_to t i d)

-- a node may still have a child more: it has none, or its last is the last of all
abbrev pub MayGrow : List Entry → ℕ → ℕ → ℕ → List TrieNode → TrieNode → Type 0
MayGrow t d j i nodes x = (x.count ≡ 0) ⊎ ((x.first + x.count ≡ length nodes) × IsMet t d j i)

-- The trie of all prefixes with d bytes after '&', and with d + 1 of the first j names; for each name the node where it
-- stands.
pub record IsSpread (t : List Entry) (d j : ℕ) (nodes : List TrieNode) (places : List ℕ) : Type 0 where
  pub names : AreNames t
  pub web : IsWeb t nodes
  pub few : length nodes ≤ 1 + NAMES_LIMIT * d + j
  pub as_long : length places ≡ length t
  pub ahead : (i : ℕ) → i < j → i < length t → place (front_to t i (d + 1)) (fronts_of t nodes) ≡ Some (place_at places i)
  pub still : (i : ℕ) → j ≤ i → i < length t → place (front_to t i d) (fronts_of t nodes) ≡ Some (place_at places i)
  pub may_grow : (i : ℕ) (x : TrieNode) → j ≤ i → i < length t → d < length (tail_at t i) → slice_index_or nodes (place_at places i) x ≡ x → MayGrow t d j i nodes x
  pub fresh : (n : ℕ) (x : TrieNode) → n < length nodes → slice_index_or nodes n x ≡ x → d + 1 < length (front_in t x) → x.count ≡ 0
  pub endless : (n : ℕ) (x : TrieNode) → n < length nodes → slice_index_or nodes n x ≡ x → x.ends ≡ None

-- the node of each name
abbrev pub ArePlaces : List Entry → List TrieNode → List ℕ → Type 0
ArePlaces t nodes places = (i : ℕ) → i < length t → place (entry_at t i).name (fronts_of t nodes) ≡ Some (place_at places i)

-- the trie of all names and the node of each, in which the first k names end
pub record IsPut (t : List Entry) (k : ℕ) (nodes : List TrieNode) (places : List ℕ) : Type 0 where
  pub names : AreNames t
  pub web : IsWeb t nodes
  pub few : length nodes < 4294967296
  pub as_long : length places ≡ length t
  pub placed : ArePlaces t nodes places
  pub ended : HasEnds t k nodes

-- the trie of all names, and the node of each
abbrev pub IsWhole : List Entry → List TrieNode → List ℕ → Type 0
IsWhole t nodes places = IsPut t (length t) nodes places

-- With i bytes after the '&' read, at a node: the longest name is a longer one than these bytes, or the best so far.
pub record IsSought (v : TableView) (text rest : List ℕ) (i node : ℕ) (best : Option ℕ) : Type 0 where
  pub whole : text ≡ 38 ∷ rest
  pub inside : node < length v.fronts
  pub front : front_at v node ≡ 38 ∷ take i rest
  pub so_far : longest v.entries text ≡ or_else (found_longer v.entries (front_at v node) (drop i rest)) (option_map (λ id. found_at v.entries id text) best)
  pub best_inside : IfSome best (λ id. id < length v.entries)
