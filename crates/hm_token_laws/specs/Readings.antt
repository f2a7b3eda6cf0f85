-- Tokens that are read one after another, and what follows them.
use Rattle.std.specs.Prelude.{◌≡◌, ℕ, Bool, true, List, [], ◌∷◌, ◌++◌}
use Rattle.hm_refs.specs.Names.{Entry}
use Rattle.hm_scan.specs.Texts.{begins_markup}
use Rattle.hm_tree.specs.Tokens.{Seen, Scanned, taken, Extends}
use Rattle.hm_token_laws.specs.First.{Mode, ordinary, in_svg, after_empty_tags, Next, at_end, after_bytes, first}

-- The token that begins here ends by itself: a tag, a comment, a doctype or a CDATA section. So does the text of an element
-- with raw text or with references alone, up to the end tag. Ordinary text ends where something else begins.
abbrev pub ends_itself : Mode → List ℕ → Bool
ends_itself ordinary s = begins_markup (after_empty_tags s).rest
ends_itself in_svg s = begins_markup (after_empty_tags s).rest
ends_itself mode s = true

-- what is next in a longer text
abbrev pub NextExtends : List ℕ → Next → Next → Type 0
NextExtends y at_end b = Unit {0}
NextExtends y (after_bytes n read) b = (longer : Scanned) × (b ≡ after_bytes n longer) × Extends y read longer

-- A token that ends by itself is the same, whatever follows it; so is a fault, if it isn't that the text ends.
abbrev pub NextTokensExtend : Type 0
NextTokensExtend = (t : List Entry) (mode : Mode) (s y : List ℕ) → ends_itself mode s ≡ true → NextExtends y (first t mode s) (first t mode (s ++ y))

-- a token, and the mode in which it is read
pub record ReadStep : Type 0 where
  pub mode : Mode
  pub token : Seen

-- these tokens are read one after another, and then rest is left
abbrev pub ReadsAs : List Entry → List ReadStep → List ℕ → List ℕ → Type 0
ReadsAs t [] s rest = s ≡ rest
ReadsAs t (k ∷ ks) s rest = (n : ℕ) × (left : List ℕ) × (first t k.mode s ≡ after_bytes n (taken k.token left)) × ReadsAs t ks left rest

-- and each of them ends by itself
abbrev pub ReadsWhole : List Entry → List ReadStep → List ℕ → List ℕ → Type 0
ReadsWhole t [] s rest = s ≡ rest
ReadsWhole t (k ∷ ks) s rest =
    (n : ℕ) × (left : List ℕ) × (first t k.mode s ≡ after_bytes n (taken k.token left)) × (ends_itself k.mode s ≡ true) × ReadsWhole t ks left rest

-- Tokens that end by themselves are the same, whatever follows them.
abbrev pub WholeReadingsExtend : Type 0
WholeReadingsExtend = (t : List Entry) (ks : List ReadStep) (s y rest : List ℕ) → ReadsWhole t ks s rest → ReadsWhole t ks (s ++ y) (rest ++ y) × ReadsAs t ks (s ++ y) (rest ++ y)

-- Where ks are read and then js from what is left, ks and js are read one after another.
abbrev pub ReadingsFollow : Type 0
ReadingsFollow = (t : List Entry) (ks js : List ReadStep) (s left rest : List ℕ) → ReadsAs t ks s left → ReadsAs t js left rest → ReadsAs t (ks ++ js) s rest

-- a written piece and the tokens that it is meant to be
pub record ReadPiece : Type 0 where
  pub bytes : List ℕ
  pub steps : List ReadStep

abbrev pub all_bytes : List ReadPiece → List ℕ
all_bytes [] = []
all_bytes (p ∷ ps) = p.bytes ++ all_bytes ps

abbrev pub all_steps : List ReadPiece → List ReadStep
all_steps [] = []
all_steps (p ∷ ps) = p.steps ++ all_steps ps

-- each piece is read as its tokens, with what follows it
abbrev pub EachIsRead : List Entry → List ReadPiece → List ℕ → Type 0
EachIsRead t [] after = Unit {0}
EachIsRead t (p ∷ ps) after = ReadsAs t p.steps (p.bytes ++ (all_bytes ps ++ after)) (all_bytes ps ++ after) × EachIsRead t ps after

-- Then the text that is put together from the pieces is read as the tokens of all of them.
abbrev pub PiecesAreRead : Type 0
PiecesAreRead = (t : List Entry) (ps : List ReadPiece) (after : List ℕ) → EachIsRead t ps after → ReadsAs t (all_steps ps) (all_bytes ps ++ after) after

-- each piece is read as its tokens, and ends by itself
abbrev pub EachIsWhole : List Entry → List ReadPiece → Type 0
EachIsWhole t [] = Unit {0}
EachIsWhole t (p ∷ ps) = ReadsWhole t p.steps p.bytes [] × EachIsWhole t ps

-- Pieces that end by themselves may stand in any order.
abbrev pub WholePiecesAreRead : Type 0
WholePiecesAreRead = (t : List Entry) (ps : List ReadPiece) (after : List ℕ) → EachIsWhole t ps → ReadsAs t (all_steps ps) (all_bytes ps ++ after) after
