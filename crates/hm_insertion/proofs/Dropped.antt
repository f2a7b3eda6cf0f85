-- A line feed that is dropped.
use Rattle.std.proofs.Common.{◌≡◌, ◌≢◌, ◌&&◌, ℕ, ◌==◌, Bool, true, false, List, [], ◌∷◌, length, cond, Ok, Err, OnOk, IfErr, Result, sym, ap, subst, ◌∙◌, refl, arith}
use Rattle.std.proofs.lemmas.Bool.Decides.{nat_tests}
use Rattle.hm_base.specs.Walks.{Event}
use Rattle.hm_construction_laws.specs.Steps.{Construction, Stepped, went, stops, step_byte, step_bytes, kept_byte, after_bytes, then_step, no_drop}
use Rattle.hm_insertion.specs.Building.{Fits, IsStepped, IsRefused}
use Rattle.hm_insertion.specs.Inside.{state_of, building_of, IsKept, IsDone, Takes}
use Rattle.hm_insertion.specs.declared.fault.BuildFault.{BuildFault}
use Rattle.hm_insertion.specs.declared.fault.BuildFault.TheVariants as faults
use Rattle.hm_insertion.specs.declared.parts.Parts.{Parts}
use Rattle.hm_insertion.proofs.Events.{grown_nothing}
use Rattle.hm_insertion.proofs.Texts.{after_nothing}

-- no line feed is dropped any more
abbrev pub undropped : Parts → Parts
undropped p = record p { drops_line_feed = false }

same_byte : (c : ℕ) (st : Construction) → (c == 10) ≡ false → step_byte c st ≡ step_byte c (no_drop st)
unfolding step_byte
same_byte c st h = by st.drops_line_feed
  where
    by : (b : Bool) → cond (b && c == 10) (went [] (no_drop st)) (kept_byte c (no_drop st)) ≡ kept_byte c (no_drop st)
    by true = rw h refl
    by false = refl

-- a text that doesn't begin with a line feed
pub none_dropped : (p : Parts) (s : List ℕ) → (length s ≡ 0 → ⊥) → ((rest : List ℕ) → s ≢ 10 ∷ rest) → step_bytes s (state_of p) ≡ step_bytes s (state_of (undropped p))
none_dropped p [] some other = absurd (some refl)
none_dropped p (c ∷ s) some other = ap (λ x. then_step x (λ next. after_bytes 1 (step_bytes s next))) (same_byte c (state_of p) (not_feed (c == 10) refl))
  where
    not_feed : (b : Bool) → (c == 10) ≡ b → (c == 10) ≡ false
    not_feed true e = absurd (other s (ap (λ d. d ∷ s) (let feed : c ≡ 10 = grind (arith, nat_tests) in feed)))
    not_feed false e = e

dropped_byte : (st : Construction) → st.drops_line_feed ≡ true → step_byte 10 st ≡ went [] (no_drop st)
unfolding step_byte
dropped_byte st e = by st.drops_line_feed e
  where
    by : (b : Bool) → b ≡ true → cond (b && 10 == 10) (went [] (no_drop st)) (kept_byte 10 (no_drop st)) ≡ went [] (no_drop st)
    by true h = refl
    by false h = absurd (cc)

-- a text that begins with a line feed
pub one_dropped : (p : Parts) (s rest : List ℕ) → p.drops_line_feed ≡ true → s ≡ 10 ∷ rest → step_bytes s (state_of p) ≡ after_bytes 1 (step_bytes rest (state_of (undropped p)))
one_dropped p s rest drops is =
    ap (λ x. step_bytes x (state_of p)) is
    ∙ ap (λ x. then_step x (λ next. after_bytes 1 (step_bytes rest next))) (dropped_byte (state_of p) drops)
    ∙ after_nothing (after_bytes 1 (step_bytes rest (state_of (undropped p))))

pub fits_after : (s : Stepped) (w : List Event) → Fits (after_bytes 1 s) w → Fits s w
fits_after (went es st) w fits = fits
fits_after (stops rule n) w fits = tt

stepped_same : (s : Stepped) (p new : Parts) → IsStepped s (building_of (undropped p)) (building_of new) → IsStepped s (building_of p) (building_of new)
stepped_same (went es st) p new h = h
stepped_same (stops rule n) p new h = h

pub done_same : (s : Stepped) (p new : Parts) → IsDone s (undropped p) new → IsDone s p new
done_same s p new done = record { kept = done.kept; stepped = stepped_same s p new done.stepped }

-- a step where no line feed is dropped any more
pub takes_same : {A : Type 0} (r : Result A BuildFault) (s t : Stepped) (p new : Parts) → t ≡ s → Takes s r (undropped p) new → Takes t r p new
takes_same (Ok a) s t p new e done = subst (λ x. IsDone x p new) (sym e) (done_same s p new done)
takes_same (Err fault) s t p new e refused = subst (λ x. IsRefused x fault) (sym e) refused

-- bytes of the token before those of a step change only where it is refused
stepped_ahead : (n : ℕ) (s : Stepped) (p new : Parts) → IsStepped s (building_of p) (building_of new) → IsStepped (after_bytes n s) (building_of p) (building_of new)
stepped_ahead n (went es st) p new h = h
stepped_ahead n (stops rule k) p new h = h

pub done_ahead : (n : ℕ) (s : Stepped) (p new : Parts) → IsDone s p new → IsDone (after_bytes n s) p new
done_ahead n s p new done = record { kept = done.kept; stepped = stepped_ahead n s p new done.stepped }

-- a step that only memory may stop
pub takes_unless_memory : {A : Type 0} (r : Result A BuildFault) (s : Stepped) (p new : Parts) (P : Type 0) → (P → IsDone s p new) → OnOk r P → IfErr r (λ fault. fault ≡ faults.OutOfMemory) → Takes s r p new
takes_unless_memory (Ok a) s p new P f ok err = f ok
takes_unless_memory (Err fault) s p new P f ok err = subst (IsRefused s) (sym err) tt

pub nothing_done : (p : Parts) (s : List ℕ) → length s ≡ 0 → IsKept p → IsDone (step_bytes s (state_of p)) p p
nothing_done p [] none kept = record { kept = kept; stepped = (refl, sym (grown_nothing p.maker kept.walk.apart)) }
nothing_done p (c ∷ s) none kept = absurd (omega arith)

pub on_ok : {A E : Type 0} (r : Result A E) (P Q : Type 0) → (P → Q) → OnOk r P → OnOk r Q
on_ok (Ok a) P Q f h = f h
on_ok (Err e) P Q f h = h

pub zero_after : (s : Stepped) → after_bytes 0 s ≡ s
zero_after (went es st) = refl
zero_after (stops rule n) = ap (stops rule) (omega arith)
