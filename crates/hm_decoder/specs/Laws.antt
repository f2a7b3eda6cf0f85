-- What holds of pages that come in pieces.
use Rattle.std.specs.Prelude.{◌≡◌, ℕ, List, ◌++◌, Some, None}
use Rattle.hm_base.specs.Source.{Refusal, source_of, text_fault}
use Rattle.hm_decoder.specs.Fed.{lasting_fault, decided, IsTextFront}

-- A fault that lasts is that of each page that begins so.
abbrev pub FaultsLast : Type 0
FaultsLast = (s y : List ℕ) (r : Refusal) → lasting_fault s ≡ Some r → (lasting_fault (s ++ y) ≡ Some r) × (text_fault (s ++ y) ≡ Some r)

-- A decided text is a front of each longer one.
abbrev pub DecidedTextsLast : Type 0
DecidedTextsLast = (s y : List ℕ) → lasting_fault (s ++ y) ≡ None → IsTextFront (decided s) (decided (s ++ y))

-- At the end of the page it is a front of the page's text.
abbrev pub WholeTextsFollow : Type 0
WholeTextsFollow = (s : List ℕ) → text_fault s ≡ None → (lasting_fault s ≡ None) × IsTextFront (decided s) (source_of s)
