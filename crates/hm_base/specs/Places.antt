-- How a text that was read knows the places of its bytes: where it starts in the page, and which of its line feeds were
-- pairs of CR and LF.
use Rattle.std.specs.Prelude.{ℕ, ◌≡◌, ◌+◌, ◌-◌, ◌<◌, ◌≤◌, Bool, true, not, ◌==◌, List, [], ◌∷◌, ◌++◌, length, nat_lt, All, AllPairs, count_by, if◌then◌else◌}
use Rattle.hm_base.specs.Bytes.{all_pass}
use Rattle.hm_base.specs.Source.{PlacedByte, Source, numbered, pairs_joined, returns_replaced, is_text_byte}
use Rattle.hm_base.specs.declared.limits.TheConstants.{OUTPUT_LIMIT}

-- a text starts after the byte order mark, where there is one
abbrev pub start_of : Bool → ℕ
start_of has_mark = if has_mark then 3 else 0

abbrev pub is_below : ℕ → ℕ → Bool
is_below i j = nat_lt j i

-- the byte of the page where the byte i of the text came from: each pair before it has one byte more
abbrev pub place_at : ℕ → List ℕ → ℕ → ℕ
place_at start pairs i = start + i + count_by (is_below i) pairs

-- the bytes from the index i on, with their places
abbrev pub placed_from : ℕ → List ℕ → ℕ → List ℕ → List PlacedByte
placed_from start pairs i [] = []
placed_from start pairs i (c ∷ s) = record { byte = c; place = place_at start pairs i } ∷ placed_from start pairs (i + 1) s

-- the pairs after the first n bytes, counted from there
abbrev pub pairs_after : ℕ → List ℕ → List ℕ
pairs_after n [] = []
pairs_after n (j ∷ pairs) = if nat_lt j n then pairs_after n pairs else (j - n) ∷ pairs_after n pairs

unfoldable pub source_from : ℕ → List ℕ → List ℕ → Source
source_from start pairs text = record { placed = placed_from start pairs 0 text; end = start + length text + length pairs }

abbrev pub mark_of : Bool → List ℕ
mark_of has_mark = if has_mark then 0xEF ∷ 0xBB ∷ 0xBF ∷ [] else []

abbrev pub is_nonzero : ℕ → Bool
is_nonzero c = not (c == 0)

-- what is true of each text that was read, or of a prefix of one
pub record IsSourceText (start : ℕ) (pairs text : List ℕ) : Type 0 where
  pub rising : AllPairs (λ i j. i < j) pairs
  pub inside : All (λ j. j < length text) pairs
  pub short : start + length text + length pairs ≤ OUTPUT_LIMIT
  pub plain : all_pass is_text_byte text ≡ true

-- a source, and after it bytes that stand in the page as they are
abbrev pub with_bytes : Source → List ℕ → Source
with_bytes source s = record { placed = source.placed ++ numbered source.end s; end = source.end + length s }

-- a source, and after it a pair of CR and LF as one LF
abbrev pub with_pair : Source → Source
with_pair source = record { placed = source.placed ++ record { byte = 10; place = source.end } ∷ []; end = source.end + 2 }

-- a source, and after it what is left of a page, with its line ends as LF
abbrev pub with_lines : Source → List ℕ → Source
with_lines source s = record { placed = source.placed ++ returns_replaced (pairs_joined (numbered source.end s)); end = source.end + length s }
