-- Pieces of a text, and the attributes whose names and values are such pieces.
use Rattle.std.specs.Prelude.{◌≡◌, ℕ, zero, suc, ◌-◌, ◌^◌, ◌<◌, ◌≤◌, true, List, [], ◌∷◌, take, drop, length, map, flat_map, All, ◌++◌, IsCharBoundary}
use Rattle.hm_base.specs.Walks.{Attribute, has_distinct_names}
use Rattle.hm_tree.specs.Attributes.{are_texts}
use Rattle.hm_tree.specs.declared.pieces.TextRange.{TextRange}
use Rattle.hm_tree.specs.declared.pieces.AttributePieces.{AttributePieces}

-- the bytes of a piece of the text
abbrev pub bytes_of : List ℕ → TextRange → List ℕ
bytes_of s p = take (p.to - p.from) (drop p.from s)

-- a piece can be cut out of the text
pub record IsPiece (s : List ℕ) (p : TextRange) : Type 0 where
  pub ordered : p.from ≤ p.to
  pub from_boundary : IsCharBoundary s p.from
  pub to_boundary : IsCharBoundary s p.to

-- the piece that is the name
abbrev pub name_of : AttributePieces → TextRange
name_of a = record { from = a.from; to = a.middle }

-- the piece that is the value
abbrev pub value_of : AttributePieces → TextRange
value_of a = record { from = a.middle; to = a.to }

-- the attribute with these pieces
abbrev pub attribute_in : List ℕ → AttributePieces → Attribute
attribute_in s a = record { name = bytes_of s (name_of a); value = bytes_of s (value_of a) }

abbrev pub attributes_in : List ℕ → List AttributePieces → List Attribute
attributes_in s pieces = map (attribute_in s) pieces

abbrev pub HasPieces : List ℕ → AttributePieces → Type 0
HasPieces s a = IsPiece s (name_of a) × IsPiece s (value_of a)

-- pieces of attributes, of which the one at a place has no value
abbrev pub emptied : ℕ → List AttributePieces → List AttributePieces
emptied at [] = []
emptied zero (a ∷ pieces) = record { from = a.from; middle = a.middle; to = a.middle } ∷ pieces
emptied (suc at) (a ∷ pieces) = a ∷ emptied at pieces

-- these pieces are the attributes of an element
pub record ArePiecesShown (s : List ℕ) (pieces : List AttributePieces) : Type 0 where
  pub inside : All (HasPieces s) pieces
  pub texts : are_texts (attributes_in s pieces) ≡ true
  pub distinct : has_distinct_names (attributes_in s pieces) ≡ true
  pub count : length pieces < 2 ^ 32

-- names and values, one after the other
abbrev pub texts_of : List Attribute → List ℕ
texts_of attributes = flat_map (λ a. a.name ++ a.value) attributes

-- Attributes were appended to a text s and the attributes in it, so that there are then a text t and these pieces.
pub record IsAppended (s : List ℕ) (before : List AttributePieces) (attributes : List Attribute) (t : List ℕ) (pieces : List AttributePieces) : Type 0 where
  pub text : t ≡ s ++ texts_of attributes
  pub kept : before ++ drop (length before) pieces ≡ pieces
  pub inside : All (HasPieces t) (drop (length before) pieces)
  pub shown : attributes_in t (drop (length before) pieces) ≡ attributes
