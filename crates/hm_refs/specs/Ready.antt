-- A table whose names and trie stand in the program as constants.
use Rattle.std.specs.Prelude.{ℕ, ◌+◌, Bool, true, ◌&&◌, ◌==◌, nat_lt, List, [], ◌∷◌, take, drop, length, None, if◌then◌else◌}
use Rattle.hm_base.specs.Bytes.{is_null}
use Rattle.hm_refs.specs.Names.{Entry}
use Rattle.hm_refs.specs.Tables.{IsTable}
use Rattle.hm_refs.specs.Nodes.{IsPut}
use Rattle.hm_refs.specs.declared.nodes.TrieNode.{TrieNode}

-- ---- names

-- a second code point, where it isn't zero
abbrev pub second_of : ℕ → List ℕ
second_of q = if q == 0 then [] else q ∷ []

-- The names that a text holds one after another, by their lengths, with the first and the second code point of each.
abbrev pub entries_from : List ℕ → List ℕ → List ℕ → List ℕ → List Entry
entries_from s [] ps qs = []
entries_from s (n ∷ ns) [] qs = []
entries_from s (n ∷ ns) (p ∷ ps) [] = []
entries_from s (n ∷ ns) (p ∷ ps) (q ∷ qs) = record { name = take n s; points = p ∷ second_of q } ∷ entries_from (drop n s) ns ps qs

-- no code point is cut here: the text is at its end, or an ASCII character stands first
abbrev pub is_edge : List ℕ → Bool
is_edge [] = true
is_edge (b ∷ s) = nat_lt b 128

-- pieces of these lengths are the whole text
abbrev pub are_cut : List ℕ → List ℕ → Bool
are_cut s [] = is_null s
are_cut s (n ∷ ns) = length (take n s) == n && (is_edge (drop n s) && are_cut (drop n s) ns)

-- ---- nodes

-- The nodes, by the name, the depth, the byte and the number of children of each. The first of them has its children
-- from the number m on, and each further one after those of the one before it.
abbrev pub nodes_from : ℕ → List ℕ → List ℕ → List ℕ → List ℕ → List TrieNode
nodes_from m [] ds bs ks = []
nodes_from m (n ∷ ns) [] bs ks = []
nodes_from m (n ∷ ns) (d ∷ ds) [] ks = []
nodes_from m (n ∷ ns) (d ∷ ds) (b ∷ bs) [] = []
nodes_from m (n ∷ ns) (d ∷ ds) (b ∷ bs) (k ∷ ks) = record { name = n; depth = d; ends = None; byte = b; first = m; count = k } ∷ nodes_from (m + k) ns ds bs ks

-- names that are a table, with its trie in which no name ends yet, and the node of each
pub record IsReady (t : List Entry) (nodes : List TrieNode) (places : List ℕ) : Type 0 where
  pub table : IsTable t
  pub put : IsPut t 0 nodes places
