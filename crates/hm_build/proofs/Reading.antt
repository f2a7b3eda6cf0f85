-- How the tree of what is left of a text goes on with the next token.
use Rattle.std.proofs.Common.{◌≡◌, ℕ, zero, suc, pred, ◌+◌, ◌-◌, ◌≤◌, ◌<◌, List, [], ◌∷◌, length, drop, refl, ap, ◌∙◌, arith}
use Rattle.std.proofs.lemmas.List.{length-drop}
use Rattle.hm_base.specs.Walks.{Event}
use Rattle.hm_refs.specs.Names.{Entry}
use Rattle.hm_tree.specs.Tokens.{Seen, taken, refused}
use Rattle.hm_tree.specs.declared.tokens.ScanFault.{ScanFault}
use Rattle.hm_token_laws.specs.First.{Mode, ordinary, in_svg, rcdata, raw, script, at_end, after_bytes, first, rule_of}
use Rattle.hm_construction_laws.specs.Steps.{Construction, Stepped, went, stops, step}
use Rattle.hm_construction_laws.specs.Trees.{Outcome, built, refused_by, after_events, mode_of, stepped, over, tree_from}
use Rattle.hm_insertion.specs.Building.{grown}
use Rattle.hm_insertion.proofs.Events.{grown_pushes}

-- the bytes to skip are skipped
skipped : (t : List Entry) (place : ℕ → ℕ) (k at : ℕ) (st : Construction) (s : List ℕ) → k ≤ length s → tree_from t place k at st s ≡ tree_from t place 0 (at + k) st (drop k s)
skipped t place zero at st [] h = ap (λ i. tree_from t place 0 i st []) (omega arith)
skipped t place zero at st (c ∷ s) h = ap (λ i. tree_from t place 0 i st (c ∷ s)) (omega arith)
skipped t place (suc k) at st [] h = absurd (none k h)
  where
    none : (k : ℕ) → suc k ≤ length {A = ℕ} [] → ⊥
    none k h = omega arith
skipped t place (suc k) at st (c ∷ s) h =
    let more : tree_from t place k (at + 1) st s ≡ tree_from t place 0 (at + 1 + k) st (drop k s) = skipped t place k (at + 1) st s (omega arith) in
    more ∙ ap (λ i. tree_from t place 0 i st (drop k s)) (omega arith)

-- the tree goes on after a token, which ends at `to`, and after the n bytes before it that stand for nothing
pub goes_on : (t : List Entry) (place : ℕ → ℕ) (at n to : ℕ) (st : Construction) (token : Seen) (s : List ℕ) → at < to → to ≤ at + length s
    → first t (mode_of st.path) s ≡ after_bytes n (taken token (drop (to - at) s))
    → tree_from t place 0 at st s ≡ stepped place (at + n) (step st token) (λ next. tree_from t place 0 to next (drop (to - at) s))
goes_on t place at n to st token [] h k e = absurd (none at to h k)
  where
    none : (at to : ℕ) → at < to → to ≤ at + length {A = ℕ} [] → ⊥
    none at to h k = omega arith
goes_on t place at n to st token (c ∷ s) h k e =
    let step_is : tree_from t place 0 at st (c ∷ s) ≡ stepped place (at + n) (step st token) (λ next. tree_from t place (pred (length (c ∷ s) - length (drop (to - at) (c ∷ s)))) (at + 1) next s) = rw e refl in
    step_is ∙ same (step st token)
  where
    count : pred (length (c ∷ s) - length (drop (to - at) (c ∷ s))) ≡ to - at - 1
    count = let l : length (drop (to - at) (c ∷ s)) ≡ length (c ∷ s) - (to - at) = length-drop (to - at) (c ∷ s) in omega arith

    inner : (i : ℕ) → suc i ≡ to - at → (next : Construction) → tree_from t place i (at + 1) next s ≡ tree_from t place 0 to next (drop (to - at) (c ∷ s))
    inner i e next =
        skipped t place i (at + 1) next s (omega arith) ∙ ap (λ j. tree_from t place 0 j next (drop i s)) (omega arith) ∙ ap (λ j. tree_from t place 0 to next (drop j (c ∷ s))) e

    more : (next : Construction) → tree_from t place (pred (length (c ∷ s) - length (drop (to - at) (c ∷ s)))) (at + 1) next s ≡ tree_from t place 0 to next (drop (to - at) (c ∷ s))
    more next = ap (λ i. tree_from t place i (at + 1) next s) count ∙ inner (to - at - 1) (omega arith) next

    same : (x : Stepped) → stepped place (at + n) x (λ next. tree_from t place (pred (length (c ∷ s) - length (drop (to - at) (c ∷ s)))) (at + 1) next s) ≡ stepped place (at + n) x (λ next. tree_from t place 0 to next (drop (to - at) (c ∷ s)))
    same (went es next) = ap (after_events es) (more next)
    same (stops rule m) = refl

-- at the end all is closed
pub ends_here : (t : List Entry) (place : ℕ → ℕ) (at : ℕ) (st : Construction) (s : List ℕ) → first t (mode_of st.path) s ≡ at_end → tree_from t place 0 at st s ≡ over place (at + length s) st
ends_here t place at st [] e = ap (λ i. over place i st) (omega arith)
ends_here t place at st (c ∷ s) e = rw e refl

-- nothing is faulty where nothing is left
no_fault : (t : List Entry) (mode : Mode) (n : ℕ) (fault : ScanFault) → first t mode [] ≡ after_bytes n (refused fault) → ⊥
unfolding first
no_fault t ordinary n fault e = cc
no_fault t in_svg n fault e = cc
no_fault t (rcdata name) n fault e = cc
no_fault t (raw name) n fault e = cc
no_fault t script n fault e = cc

-- a fault refuses the page
pub is_faulty : (t : List Entry) (place : ℕ → ℕ) (at n : ℕ) (st : Construction) (fault : ScanFault) (s : List ℕ) → first t (mode_of st.path) s ≡ after_bytes n (refused fault) → tree_from t place 0 at st s ≡ refused_by (rule_of fault) (place (at + n))
is_faulty t place at n st fault [] e = absurd (no_fault t (mode_of st.path) n fault e)
is_faulty t place at n st fault (c ∷ s) e = rw e refl

-- events after a walk
pub after_grown : (w es : List Event) (o : Outcome) → after_events (grown w es) o ≡ after_events w (after_events es o)
after_grown w es (built v) = ap built (grown_pushes w es v)
after_grown w es (refused_by rule at) = refl
