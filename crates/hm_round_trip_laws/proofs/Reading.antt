-- What a token and a text do to the tree that is built of the bytes from here on.
use Rattle.std.proofs.Common.{◌≡◌, ℕ, zero, suc, pred, ◌+◌, ◌-◌, ◌<◌, ◌≤◌, List, [], ◌∷◌, ◌++◌, length, drop, refl, ◌∙◌, ap, subst, arith}
use Rattle.hm_base.specs.Walks.{Event, pushes}
use Rattle.hm_refs.specs.Names.{Entry}
use Rattle.hm_tree.specs.Tokens.{Seen, Scanned, taken, refused}
use Rattle.hm_tree.specs.Tokens as tokens
use Rattle.hm_token_laws.specs.First.{Mode, Next, at_end, after_bytes, first}
use Rattle.hm_token_laws.specs.Laws.{SoundNames, IsMode, least_size}
use Rattle.hm_token_laws.proofs.Firsts.{tokens_are_small}
use Rattle.hm_construction_laws.specs.Steps.{Construction, Stepped, went, stops, step, step_over}
use Rattle.hm_construction_laws.specs.Trees.{Outcome, built, refused_by, after_events, mode_of, stepped, next_step, tree_from}
use Rattle.hm_construction_laws.proofs.Standing.{pushes_append}
use Rattle.hm_construction_laws.proofs.Rests.{shorter, rest_is}

-- ---- Outcomes

pub after_none : (o : Outcome) → after_events [] o ≡ o
after_none (built w) = refl
after_none (refused_by rule at) = refl

pub after_after : (es fs : List Event) (o : Outcome) → after_events (es ++ fs) o ≡ after_events es (after_events fs o)
after_after es fs (built w) = ap built (pushes_append es fs w)
after_after es fs (refused_by rule at) = refl

-- the tree that is built of what is left, wherever it stands in a page
abbrev pub Builds : List Entry → Construction → List ℕ → List Event → Type 0
Builds t st b w = (place : ℕ → ℕ) (at : ℕ) → tree_from t place 0 at st b ≡ built w

-- ---- One token

-- the place after bytes that are skipped
abbrev passed : ℕ → ℕ → List ℕ → ℕ
passed skip at [] = at
passed (suc skip) at (c ∷ s) = passed skip (at + 1) s
passed zero at (c ∷ s) = at

passed_over : (t : List Entry) (place : ℕ → ℕ) (skip at : ℕ) (st : Construction) (s : List ℕ) → tree_from t place skip at st s ≡ tree_from t place 0 (passed skip at s) st (drop skip s)
passed_over t place zero at st [] = refl
passed_over t place (suc skip) at st [] = refl
passed_over t place (suc skip) at st (c ∷ s) = passed_over t place skip (at + 1) st s
passed_over t place zero at st (c ∷ s) = refl

-- a state that reads in the mode steps the token, and reads on after it
abbrev pub StepsToken : List Entry → (ℕ → ℕ) → ℕ → Mode → List ℕ → ℕ → Seen → List ℕ → ℕ → Type 0
StepsToken t place at mode s n token rest later = (st : Construction) → mode_of st.path ≡ mode → tree_from t place 0 at st s ≡ stepped place (at + n) (step st token) (λ next. tree_from t place 0 later next rest)

same_step : (place : ℕ → ℕ) (at : ℕ) (o : Stepped) (f g : Construction → Outcome) → ((st : Construction) → f st ≡ g st) → stepped place at o f ≡ stepped place at o g
same_step place at (went es st) f g same = ap (after_events es) (same st)
same_step place at (stops rule n) f g same = refl

pub token_steps : (t : List Entry) (place : ℕ → ℕ) (at : ℕ) (mode : Mode) (s : List ℕ) (n : ℕ) (token : Seen) (rest : List ℕ) → SoundNames t → IsMode mode → first t mode s ≡ after_bytes n (taken token rest) → (later : ℕ) × StepsToken t place at mode s n token rest later
token_steps t place at mode [] n token rest names m h = let less = shorter t mode [] n token rest names m h in absurd (omega arith)
token_steps t place at mode (c ∷ s) n token rest names m h = (passed skip (at + 1) s, λ st e. reads st e)
  where
    skip : ℕ
    skip = pred (length (c ∷ s) - length rest)

    on : (st : Construction) → tree_from t place skip (at + 1) st s ≡ tree_from t place 0 (passed skip (at + 1) s) st rest
    on st = passed_over t place skip (at + 1) st s ∙ ap (tree_from t place 0 (passed skip (at + 1) s) st) (rest_is t mode c s n token rest names m h)

    reads : (st : Construction) → mode_of st.path ≡ mode → tree_from t place 0 at st (c ∷ s) ≡ stepped place (at + n) (step st token) (λ next. tree_from t place 0 (passed skip (at + 1) s) next rest)
    reads st e =
        ap (λ x. next_step place at st (c ∷ s) x (λ k next. tree_from t place k (at + 1) next s)) (ap (λ m'. first t m' (c ∷ s)) e ∙ h)
        ∙ same_step place (at + n) (step st token) (λ next. tree_from t place skip (at + 1) next s) (λ next. tree_from t place 0 (passed skip (at + 1) s) next rest) on

-- ---- Places make no difference for a page that isn't refused

after_is_built : (es : List Event) (o o' : Outcome) (w : List Event) → ((v : List Event) → o ≡ built v → o' ≡ built v) → after_events es o ≡ built w → after_events es o' ≡ built w
after_is_built es (built v) o' w same h = ap (after_events es) (same v refl) ∙ h
after_is_built es (refused_by rule at) o' w same h = cc

step_anywhere : (place place' : ℕ → ℕ) (at at' : ℕ) (o : Stepped) (f g : Construction → Outcome) (w : List Event) → ((st : Construction) (v : List Event) → f st ≡ built v → g st ≡ built v) → stepped place at o f ≡ built w → stepped place' at' o g ≡ built w
step_anywhere place place' at at' (went es st) f g w same h = after_is_built es (f st) (g st) w (same st) h
step_anywhere place place' at at' (stops rule n) f g w same h = cc

next_anywhere : (place place' : ℕ → ℕ) (at at' : ℕ) (st : Construction) (s : List ℕ) (x : Next) (f g : ℕ → Construction → Outcome) (w : List Event) → ((k : ℕ) (next : Construction) (v : List Event) → f k next ≡ built v → g k next ≡ built v) → next_step place at st s x f ≡ built w → next_step place' at' st s x g ≡ built w
next_anywhere place place' at at' st s at_end f g w same h = step_anywhere place place' (at + length s) (at' + length s) (step_over st) (λ next. built []) (λ next. built []) w (λ next v e. e) h
next_anywhere place place' at at' st s (after_bytes n (refused fault)) f g w same h = cc
next_anywhere place place' at at' st s (after_bytes n (taken token rest)) f g w same h = step_anywhere place place' (at + n) (at' + n) (step st token) (f (pred (length s - length rest))) (g (pred (length s - length rest))) w (same (pred (length s - length rest))) h

pub anywhere : (t : List Entry) (place place' : ℕ → ℕ) (s : List ℕ) (skip at at' : ℕ) (st : Construction) (w : List Event) → tree_from t place skip at st s ≡ built w → tree_from t place' skip at' st s ≡ built w
anywhere t place place' [] zero at at' st w h = step_anywhere place place' at at' (step_over st) (λ next. built []) (λ next. built []) w (λ next v e. e) h
anywhere t place place' [] (suc skip) at at' st w h = step_anywhere place place' at at' (step_over st) (λ next. built []) (λ next. built []) w (λ next v e. e) h
anywhere t place place' (c ∷ s) (suc skip) at at' st w h = anywhere t place place' s skip (at + 1) (at' + 1) st w h
anywhere t place place' (c ∷ s) zero at at' st w h =
    next_anywhere place place' at at' st (c ∷ s) (first t (mode_of st.path) (c ∷ s)) (λ k next. tree_from t place k (at + 1) next s) (λ k next. tree_from t place' k (at' + 1) next s) w
    (λ k next v e. anywhere t place place' s k (at + 1) (at' + 1) next v e) h

-- ---- A written token

-- it makes its events
pub written : (t : List Entry) (mode : Mode) (st next : Construction) (es : List Event) (w : List Event) (b : List ℕ) (n : ℕ) (token : Seen) (rest : List ℕ) → SoundNames t → IsMode mode → mode_of st.path ≡ mode
    → first t mode b ≡ after_bytes n (taken token rest) → step st token ≡ went es next → Builds t next rest w → Builds t st b (pushes es w)
written t mode st next es w b n token rest names m e h goes more place at =
    let k = token_steps t place at mode b n token rest names m h in
    k.1 st e ∙ ap (λ o. stepped place (at + n) o (λ next'. tree_from t place 0 k.0 next' rest)) goes ∙ ap (after_events es) (more place k.0)
