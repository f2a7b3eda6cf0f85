-- Where tree construction stands after all of a text that is ready, and which bytes are left.
use Rattle.std.specs.Prelude.{ℕ, zero, suc, pred, ◌-◌, List, [], ◌∷◌, length, Option, Some, None, if◌then◌else◌}
use Rattle.hm_refs.specs.Names.{Entry}
use Rattle.hm_tree.specs.Tokens.{taken, refused}
use Rattle.hm_token_laws.specs.First.{Next, at_end, after_bytes}
use Rattle.hm_construction_laws.specs.Steps.{Construction, Stepped, went, stops, step}
use Rattle.hm_construction_laws.specs.Trees.{mode_of}
use Rattle.hm_lexer.specs.Ready.{ready, part}

-- the state of tree construction, and the bytes after all that is ready
pub record Standing : Type 0 where
  pub state : Construction
  pub left : List ℕ

abbrev pub stand_at : Construction → List ℕ → Option Standing
stand_at st s = Some (record { state = st; left = s })

-- a step, and where construction stands after it
abbrev pub stand_on : Stepped → (Construction → Option Standing) → Option Standing
stand_on (went es st) more = more st
stand_on (stops rule n) more = None

abbrev pub stand_next : Construction → List ℕ → Next → (ℕ → Construction → Option Standing) → Option Standing
stand_next st s at_end more = stand_at st s
stand_next st s (after_bytes n (refused fault)) more = None
stand_next st s (after_bytes n (taken token rest)) more = stand_on (step st token) (more (pred (length s - length rest)))

-- After all that is ready of what is left of a text; none where a token is refused. The first skip bytes are passed over.
abbrev pub stands : List Entry → ℕ → Construction → List ℕ → Option Standing
stands t skip st [] = stand_at st []
stands t (suc skip) st (c ∷ s) = stands t skip st s
stands t zero st (c ∷ s) =
    if ready t (mode_of st.path) (c ∷ s) then stand_next st (c ∷ s) (part t (mode_of st.path) (c ∷ s)) (λ skip next. stands t skip next s)
    else stand_at st (c ∷ s)
