-- Tokens without where their bytes lie, and what a scan reads from a place of a text on.
use Rattle.std.specs.Prelude.{◌≡◌, ℕ, ◌≤◌, Bool, List, ◌∷◌, ◌++◌, drop, slice_range, option_to_list, IsCharBoundary}
use Rattle.hm_base.specs.Walks.{Attribute}
use Rattle.hm_base.specs.declared.plain.Points.{Points}
use Rattle.hm_tree.specs.declared.tokens.Token.{Token}
use Rattle.hm_tree.specs.declared.tokens.Token.TheVariants as tokens
use Rattle.hm_tree.specs.declared.tokens.ScanFault.{ScanFault}
use Rattle.hm_tree.specs.declared.tokens.ScanFault.TheVariants as faults

-- a token with its bytes
pub data Seen : Type 0 where
  doctype : Bool → Seen  -- whether it is the legacy one
  start_tag : List ℕ → List Attribute → Bool → Seen  -- name, attributes in order, whether `/` stands before its `>`
  end_tag : List ℕ → Seen
  slice : List ℕ → Seen  -- text as it is written
  points : List ℕ → Seen  -- the code points of a character reference
  comment : List ℕ → Seen

abbrev pub points_of : Points → List ℕ
points_of p = p.first ∷ option_to_list p.second

-- a token of this text
abbrev pub seen : List ℕ → Token → Seen
seen s (tokens.Doctype legacy) = doctype legacy
seen s (tokens.StartTag name attrs slash) = start_tag name attrs slash
seen s (tokens.EndTag name) = end_tag name
seen s (tokens.Slice from to) = slice (slice_range s from to)
seen s (tokens.Points p) = points (points_of p)
seen s (tokens.Comment from to) = comment (slice_range s from to)

-- what is between two places can be cut out of the text
pub record IsPiece (s : List ℕ) (from to : ℕ) : Type 0 where
  pub ordered : from ≤ to
  pub from_boundary : IsCharBoundary s from
  pub to_boundary : IsCharBoundary s to

-- what the token names of this text can be cut out of it
abbrev pub IsInText : List ℕ → Token → Type 0
IsInText s (tokens.Slice from to) = IsPiece s from to
IsInText s (tokens.Comment from to) = IsPiece s from to
IsInText s token = Unit {0}

-- Where the bytes that the token names begin in its text. Where they end follows, since its bytes are known.
abbrev pub BeginsAt : ℕ → Token → Type 0
BeginsAt place (tokens.Slice from to) = from ≡ place
BeginsAt place (tokens.Comment from to) = from ≡ place
BeginsAt place token = Unit {0}

-- what is read of the rest of a text: a token and what follows it, or why there is none
pub data Scanned : Type 0 where
  taken : Seen → List ℕ → Scanned
  refused : ScanFault → Scanned

-- this token is read, and the bytes after it begin at this place of the text
pub record Reads (read : Scanned) (s : List ℕ) (token : Token) (place : ℕ) : Type 0 where
  pub is : read ≡ taken (seen s token) (drop place s)
  pub inside : IsInText s token
  pub boundary : IsCharBoundary s place

-- What is read of a longer text: the same token, with more after it, or the same fault, unless the fault is that the
-- text ends.
abbrev pub Extends : List ℕ → Scanned → Scanned → Type 0
Extends y (taken k rest) b = b ≡ taken k (rest ++ y)
Extends y (refused faults.Cut) b = Unit {0}
Extends y (refused fault) b = b ≡ refused fault
