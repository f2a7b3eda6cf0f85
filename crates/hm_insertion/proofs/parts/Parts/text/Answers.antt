use Rattle.std.proofs.Common.{◌≡◌, ◌≢◌, ℕ, List, ◌∷◌, None, Some, sym, subst, ◌∙◌, arith}
use Rattle.std.proofs.lemmas.Str.Pattern.{strip_prefix_char}
use Rattle.hm_construction_laws.specs.Steps.{step_bytes, after_bytes}
use Rattle.hm_insertion.specs.Building.{Fits}
use Rattle.hm_insertion.specs.Inside.{state_of}
use Rattle.hm_insertion.proofs.PlainTexts.{is_zero, is_some}
use Rattle.hm_insertion.proofs.Dropped.{undropped, none_dropped, one_dropped, fits_after, takes_same, nothing_done, zero_after}
use Rattle.hm_insertion.proofs.parts.Parts.text.Goals as goal

pub returns-then-is_empty : goal.returns-then-is_empty
returns-then-is_empty c = nothing_done c.args.self.now c.args.text.now (is_zero _ (sym c.is_empty.ensures ∙ c.if-is_empty.true)) c.requires.kept

pub plain_text-requires-in-Some-clause-room : goal.plain_text-requires-in-Some-clause-room
plain_text-requires-in-Some-clause-room c =
    let p = c.args.self.now in
    let s = c.args.text.now in
    let feed : s ≡ 10 ∷ c.in-Some.rest.now = strip_prefix_char 10 s (Some c.in-Some.rest) c.in-Some.ensures.cases (omega arith) in
    fits_after (step_bytes c.in-Some.rest.now (state_of (undropped p))) p.maker (subst (λ x. Fits x p.maker) (one_dropped p s c.in-Some.rest.now c.if-not-self.false feed) c.requires.room)

pub plain_text-requires-in-None-clause-room : goal.plain_text-requires-in-None-clause-room
plain_text-requires-in-None-clause-room c =
    let p = c.args.self.now in
    let s = c.args.text.now in
    let other : (rest : List ℕ) → s ≢ 10 ∷ rest = strip_prefix_char 10 s None c.in-None.ensures.cases (omega arith) in
    subst (λ x. Fits x p.maker) (none_dropped p s (is_some _ (sym c.is_empty.ensures ∙ c.if-is_empty.false)) other) c.requires.room

pub returns-in-Some : goal.returns-in-Some
returns-in-Some c =
    let p = c.args.self.now in
    let s = c.args.text.now in
    let rest = c.in-Some.rest.now in
    let feed : s ≡ 10 ∷ c.in-Some.rest.now = strip_prefix_char 10 s (Some c.in-Some.rest) c.in-Some.ensures.cases (omega arith) in
    takes_same c.plain_text-in-Some.result (after_bytes 1 (step_bytes rest (state_of (undropped p)))) (step_bytes s (state_of p)) p c.plain_text-in-Some.new.self
    (one_dropped p s rest c.if-not-self.false feed) c.plain_text-in-Some.ensures

pub returns-in-None : goal.returns-in-None
returns-in-None c =
    let p = c.args.self.now in
    let s = c.args.text.now in
    let other : (rest : List ℕ) → s ≢ 10 ∷ rest = strip_prefix_char 10 s None c.in-None.ensures.cases (omega arith) in
    let same = none_dropped p s (is_some _ (sym c.is_empty.ensures ∙ c.if-is_empty.false)) other in
    takes_same c.plain_text-in-None.result (after_bytes 0 (step_bytes s (state_of (undropped p)))) (step_bytes s (state_of p)) p c.plain_text-in-None.new.self
    (same ∙ sym (zero_after (step_bytes s (state_of (undropped p))))) c.plain_text-in-None.ensures
