-- How far references and texts look, and texts that are written piece by piece.
use Rattle.std.specs.Prelude.{◌≡◌, ℕ, Bool, true, false, not, ◌&&◌, ◌||◌, ◌==◌, List, [], ◌∷◌, ◌++◌, map, length, Some, encode_utf8_all}
use Rattle.hm_base.specs.Bytes.{is_alnum}
use Rattle.hm_base.specs.RawText.{raw_end}
use Rattle.hm_refs.specs.Names.{Entry}
use Rattle.hm_refs.specs.References.{reference}
use Rattle.hm_refs.specs.Tables.{IsTable}
use Rattle.hm_scan.specs.TextPlaces.{reference_here, ends_before}
use Rattle.hm_scan.specs.Texts.{begins_markup, ends_plain}
use Rattle.hm_tree.specs.Tokens.{Seen, slice, points}
use Rattle.hm_token_laws.specs.First as modes
use Rattle.hm_token_laws.specs.First.{Mode}
use Rattle.hm_token_laws.specs.Laws.{reads_markup}
use Rattle.hm_token_laws.specs.Readings.{ReadStep, ReadsAs}

-- ---- references

-- a byte that may belong to a reference after its '&', or keep a name from being one
unfoldable pub goes_on : Bool → ℕ → Bool
goes_on value c = is_alnum c || (c == 59 || (c == 35 || (value && c == 61)))

-- A reference is decided by the bytes before the first one that can't go on: it is read there as at the end.
abbrev pub ReferencesAreDecided : Type 0
ReferencesAreDecided = (t : List Entry) (value : Bool) (s : List ℕ) (d : ℕ) (y : List ℕ)
    → IsTable t → goes_on value d ≡ false → reference t value (38 ∷ (s ++ d ∷ y)) ≡ reference t value (38 ∷ s)

-- ---- texts

-- a byte that stands for itself, or a reference and its code points
pub data TextPiece : Type 0 where
  literal : ℕ → TextPiece
  referred : List ℕ → List ℕ → TextPiece

abbrev pub written_so : List TextPiece → List ℕ
written_so [] = []
written_so (literal c ∷ ps) = c ∷ written_so ps
written_so (referred b qs ∷ ps) = b ++ written_so ps

-- the bytes of the text that is meant
abbrev pub meant : List TextPiece → List ℕ
meant [] = []
meant (literal c ∷ ps) = c ∷ meant ps
meant (referred b qs ∷ ps) = encode_utf8_all qs ++ meant ps

-- Each piece is what it is meant to be, with what follows it. Where a byte stands for itself no reference begins, and no
-- markup where markup may begin. A reference has these bytes and these code points.
abbrev pub ArePieces : List Entry → Bool → List TextPiece → List ℕ → Type 0
ArePieces t rcdata [] after = Unit {0}
ArePieces t rcdata (literal c ∷ ps) after = (ends_plain t rcdata c (written_so ps ++ after) ≡ false) × ArePieces t rcdata ps after
ArePieces t rcdata (referred b qs ∷ ps) after = (reference_here t (b ++ (written_so ps ++ after)) ≡ Some (record { points = qs; len = length b })) × ArePieces t rcdata ps after

-- the first byte can neither go on in a reference nor open markup after a '<'
abbrev pub cuts_text : List ℕ → Bool
cuts_text [] = false
cuts_text (d ∷ y) = not (goes_on false d || (d == 33 || (d == 47 || d == 63)))

-- Pieces that mean this before one such byte mean it before each, and at the end.
abbrev pub TextsAreDecided : Type 0
TextsAreDecided = (t : List Entry) (rcdata : Bool) (ps : List TextPiece) (x y : List ℕ)
    → IsTable t → cuts_text x ≡ true → cuts_text y ≡ true → ArePieces t rcdata ps x → ArePieces t rcdata ps y × ArePieces t rcdata ps []

-- In title and textarea, where no markup begins, pieces that mean this at the end mean it before each such byte.
abbrev pub EndsAreDecided : Type 0
EndsAreDecided = (t : List Entry) (ps : List TextPiece) (y : List ℕ) → IsTable t → cuts_text y ≡ true → ArePieces t true ps [] → ArePieces t true ps y

-- ---- as they are read

abbrev pub in_mode : Mode → Seen → ReadStep
in_mode mode token = record { mode = mode; token = token }

-- the bytes of the texts that the tokens stand for
abbrev pub texts_of : List Seen → List ℕ
texts_of [] = []
texts_of (slice s ∷ ks) = s ++ texts_of ks
texts_of (points qs ∷ ks) = encode_utf8_all qs ++ texts_of ks
texts_of (k ∷ ks) = texts_of ks

abbrev pub is_text : Seen → Bool
is_text (slice s) = true
is_text (points qs) = true
is_text k = false

abbrev pub are_texts : List Seen → Bool
are_texts [] = true
are_texts (k ∷ ks) = is_text k && are_texts ks

-- s is read up to rest as pieces of text, which together are this text
pub record IsReadAs (t : List Entry) (mode : Mode) (s rest text : List ℕ) : Type 0 where
  pub tokens : List Seen
  pub reads : ReadsAs t (map (in_mode mode) tokens) s rest
  pub texts : are_texts tokens ≡ true
  pub joined : texts_of tokens ≡ text

-- a text ends here: nothing is left, or markup begins
abbrev pub ends_text : List Entry → List ℕ → Bool
ends_text t [] = true
ends_text t (c ∷ s) = ends_before t false (c ∷ s)

-- Ordinary text is read as it is meant, up to where it ends.
abbrev pub TextsAreRead : Type 0
TextsAreRead = (t : List Entry) (mode : Mode) (ps : List TextPiece) (after : List ℕ)
    → IsTable t → reads_markup mode ≡ true → ArePieces t false ps after → ends_text t after ≡ true → IsReadAs t mode (written_so ps ++ after) after (meant ps)

-- The text of title and textarea is read as it is meant, up to the end tag.
abbrev pub ElementTextsAreRead : Type 0
ElementTextsAreRead = (t : List Entry) (name : List ℕ) (ps : List TextPiece) (after : List ℕ)
    → IsTable t → ArePieces t true ps [] → raw_end name (written_so ps ++ after) ≡ Some (length (written_so ps)) → IsReadAs t (modes.rcdata name) (written_so ps ++ after) after (meant ps)

-- A text ends where markup begins, and what stands before it is decided there.
abbrev pub MarkupEndsTexts : Type 0
MarkupEndsTexts = (t : List Entry) (s : List ℕ) → begins_markup s ≡ true → (ends_text t s ≡ true) × (cuts_text s ≡ true)
