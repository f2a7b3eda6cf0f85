-- What holds of tokens that are ready.
use Rattle.std.specs.Prelude.{◌≡◌, ℕ, ◌+◌, ◌-◌, true, false, List, ◌∷◌, ◌++◌, length, None}
use Rattle.hm_base.specs.Bytes.{some_passes}
use Rattle.hm_refs.specs.Names.{Entry}
use Rattle.hm_refs.specs.References.{reference}
use Rattle.hm_refs.specs.Tables.{IsTable}
use Rattle.hm_tree.specs.Tokens.{taken, refused}
use Rattle.hm_token_laws.specs.First.{Next, at_end, after_bytes, rule_of}
use Rattle.hm_construction_laws.specs.Steps.{Construction, step}
use Rattle.hm_construction_laws.specs.Trees.{refused_by, mode_of, stepped, tree_from}
use Rattle.hm_lexer.specs.Ready.{ends_reference, ready, part}
use Rattle.hm_lexer.specs.Standing.{stand_on, stands}

-- A reference that has ended is the same, whatever follows it.
abbrev pub ReferencesLast : Type 0
ReferencesLast = (t : List Entry) (s y : List ℕ) → IsTable t → some_passes ends_reference s ≡ true → reference t false (38 ∷ (s ++ y)) ≡ reference t false (38 ∷ s)

-- The tree of s, with y after it, from the place at on: this token of s is stepped, and the tree goes on after it.
abbrev pub GoesOn : List Entry → (ℕ → ℕ) → ℕ → Construction → List ℕ → List ℕ → Next → Type 0
GoesOn t place at st s y at_end = tree_from t place 0 at st (s ++ y) ≡ tree_from t place 0 (at + length s) st y
GoesOn t place at st s y (after_bytes n (refused fault)) = tree_from t place 0 at st (s ++ y) ≡ refused_by (rule_of fault) (place (at + n))
GoesOn t place at st s y (after_bytes n (taken token rest)) =
    tree_from t place 0 at st (s ++ y) ≡ stepped place (at + n) (step st token) (λ next. tree_from t place 0 (at + (length s - length rest)) next (rest ++ y))

-- What is ready is stepped as part of any longer text.
abbrev pub PartsBuild : Type 0
PartsBuild = (t : List Entry) (place : ℕ → ℕ) (at : ℕ) (st : Construction) (s y : List ℕ) → IsTable t → ready t (mode_of st.path) s ≡ true → GoesOn t place at st s y (part t (mode_of st.path) s)

-- Where construction stands after s, with y after it: this token of s is stepped, and construction goes on after it.
abbrev pub StandsOn : List Entry → Construction → List ℕ → List ℕ → Next → Type 0
StandsOn t st s y at_end = Unit {0}
StandsOn t st s y (after_bytes n (refused fault)) = stands t 0 st (s ++ y) ≡ None
StandsOn t st s y (after_bytes n (taken token rest)) = stands t 0 st (s ++ y) ≡ stand_on (step st token) (λ next. stands t 0 next (rest ++ y))

-- What is ready is stepped, whatever follows.
abbrev pub ReadyStands : Type 0
ReadyStands = (t : List Entry) (st : Construction) (s y : List ℕ) → IsTable t → ready t (mode_of st.path) s ≡ true → StandsOn t st s y (part t (mode_of st.path) s)
