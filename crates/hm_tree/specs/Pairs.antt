-- Attributes whose names and values stand in one text, one after the other.
use Rattle.std.specs.Prelude.{◌≡◌, ℕ, ◌+◌, ◌^◌, ◌<◌, true, List, length, map, All}
use Rattle.hm_base.specs.Walks.{Attribute, has_distinct_names}
use Rattle.hm_tree.specs.Pieces.{HasPieces, attributes_in, texts_of}
use Rattle.hm_tree.specs.declared.pieces.AttributePieces.{AttributePieces}
use Rattle.hm_tree.specs.declared.pieces.Pair.{Pair}

-- the same places, as a tree has them
abbrev pub pieces_of : Pair → AttributePieces
pieces_of p = record { from = p.from; middle = p.middle; to = p.to }

abbrev pub attributes_of : List ℕ → List Pair → List Attribute
attributes_of s pairs = attributes_in s (map pieces_of pairs)

-- name and value can be cut out of the text
abbrev pub HasPair : List ℕ → Pair → Type 0
HasPair s p = HasPieces s (pieces_of p)

-- what is true of the attributes of a tag that is read: their text has nothing but names and values
pub record IsAttributeList (s : List ℕ) (pairs : List Pair) : Type 0 where
  pub inside : All (HasPair s) pairs
  pub text : s ≡ texts_of (attributes_of s pairs)
  pub distinct : has_distinct_names (attributes_of s pairs) ≡ true
  pub count : length pairs < 2 ^ 32

-- the pieces of a pair, n bytes further on
pub record IsShifted (n : ℕ) (p : Pair) (q : AttributePieces) : Type 0 where
  pub from : q.from ≡ n + p.from
  pub middle : q.middle ≡ n + p.middle
  pub to : q.to ≡ n + p.to
