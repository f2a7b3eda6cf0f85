-- What a step and the byte after a text or a value say about what is pending.
use Rattle.std.specs.Prelude.{◌≡◌, ℕ, true, false, List, [], ◌∷◌, Some}
use Rattle.hm_refs.specs.Names.{Entry}
use Rattle.hm_refs.specs.Tables.{IsIn, IsTable}
use Rattle.hm_spelling_spec.specs.Characters.{Spot, is_value}
use Rattle.hm_graph_laws.specs.States.{Pending}
use Rattle.hm_graph_laws.specs.Steps.{keeps, passes, may_end, Fits}

-- the bytes that follow keep what is pending exactly where no step over them breaks it
abbrev pub StepsTell : Type 0
StepsTell = (t : List Entry) → IsTable t → (spot : Spot) (s : List ℕ) (p : Pending) → Fits t spot p → keeps t spot p s ≡ passes t spot (Some p) s

-- the bytes that may stand directly after a value: quotes, '>' and whitespace
abbrev pub closing_bytes : List ℕ
closing_bytes = 34 ∷ 39 ∷ 62 ∷ 9 ∷ 10 ∷ 12 ∷ 13 ∷ 32 ∷ []

-- in a value the closing byte keeps what is pending exactly where it may end
abbrev pub ClosingsTell : Type 0
ClosingsTell =
    (t : List Entry) → IsTable t → (spot : Spot) (p : Pending) (c : ℕ) (s : List ℕ) → is_value spot ≡ true → IsIn c closing_bytes → Fits t spot p
    → keeps t spot p (c ∷ s) ≡ may_end t spot p

-- in text '<' keeps whatever is pending
abbrev pub MarkupTells : Type 0
MarkupTells = (t : List Entry) → IsTable t → (spot : Spot) (p : Pending) (s : List ℕ) → is_value spot ≡ false → Fits t spot p → keeps t spot p (60 ∷ s) ≡ true
