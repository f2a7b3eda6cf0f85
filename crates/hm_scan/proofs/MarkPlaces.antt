-- Scans of scripts: from mark to mark.
use Rattle.std.proofs.Common.{◌≡◌, ℕ, zero, suc, ◌+◌, ◌-◌, ◌<◌, ◌≤◌, Bool, true, false, cond, ◌==◌, List, [], ◌∷◌, length, drop, get_or, Option, Some, None, refl, ap, sym, ◌∙◌, arith, add-zero, lit<, length-drop}
use Rattle.std.proofs.lemmas.List.{drop-drop, drop_more, drop_all}
use Rattle.std.proofs.lemmas.Bool.Decides.{nat_tests}
use Rattle.memchr.specs.Find.{Passes, is_byte2}
use Rattle.hm_base.specs.Bytes.{lower}
use Rattle.hm_base.specs.RawText.{Mark, Marked, ScriptState, mark_at, with_mark, marks_from, first_end, ends_script, state_after}
use Rattle.hm_scan.specs.Scripts.{next_state}
use Rattle.hm_scan.proofs.Lowered.{eqb_lower}

-- a mark begins with `<` or a dash
no_mark : (c : ℕ) (s : List ℕ) → (60 == c) ≡ false → (45 == c) ≡ false → mark_at (c ∷ s) ≡ None
unfolding mark_at
no_mark c s e f = let g : (60 == lower c) ≡ false = eqb_lower 60 c (lit< tt) ∙ e in rw (e, f, g) refl

is_neither : (c : ℕ) → is_byte2 60 45 c ≡ false → ((60 == c) ≡ false) × ((45 == c) ≡ false)
is_neither c e = (grind (arith, nat_tests), grind (arith, nat_tests))

pub mark_missing : (s : List ℕ) (k : ℕ) → k < length s → (Passes (is_byte2 60 45) s k → ⊥) → mark_at (drop k s) ≡ None
mark_missing s k inside fails = either (is_byte2 60 45 (get_or s k 0)) refl
  where
    either : (b : Bool) → is_byte2 60 45 (get_or s k 0) ≡ b → mark_at (drop k s) ≡ None
    either true e = absurd (fails e)
    either false e = let q = is_neither (get_or s k 0) e in rw (drop_more s k 0 inside) (no_mark (get_or s k 0) (drop (k + 1) s) q.0 q.1)

-- over n bytes without a mark
pub marks_passed : (i : ℕ) (s : List ℕ) (n : ℕ) → n ≤ length s → ((k : ℕ) → k < n → mark_at (drop k s) ≡ None) → marks_from i s ≡ marks_from (i + n) (drop n s)
marks_passed i s zero h none = rw add-zero refl
marks_passed i [] (suc n) h none = absurd (omega arith)
marks_passed i (c ∷ s) (suc n) h none =
    let passed : mark_at (c ∷ s) ≡ None = none 0 (omega arith) in
    let place : suc i + n ≡ i + suc n = omega arith in
    rw (passed, marks_passed (suc i) s n (omega arith) (λ k l. none (suc k) (omega arith)), place) refl

-- over one byte
pub marks_at : (i : ℕ) (s : List ℕ) (n : ℕ) → n < length s → marks_from i (drop n s) ≡ with_mark (mark_at (drop n s)) i (marks_from (suc i) (drop (n + 1) s))
marks_at i s n h = rw (drop_more s n 0 h) refl

-- at a byte with its mark, if there is one
module _ (st : ScriptState) (i : ℕ) (more : List Marked) where
  pub ends_here : (m : Option Mark) → next_state st m ≡ None → first_end st (with_mark m i more) ≡ Some i
  ends_here None e = cc
  ends_here (Some k) e = elim (ends_script st k) as (λ b. cond b None (Some (state_after st k)) ≡ None → cond b (Some i) (first_end (state_after st k) more) ≡ Some i)
      [ true ↦ λ f. refl | false ↦ λ f. cc ] e

  pub goes_on : (m : Option Mark) (next : ScriptState) → next_state st m ≡ Some next → first_end st (with_mark m i more) ≡ first_end next more
  goes_on None next e = let same : st ≡ next = cc in rw same refl
  goes_on (Some k) next e = elim (ends_script st k) as (λ b. cond b None (Some (state_after st k)) ≡ Some next → cond b (Some i) (first_end (state_after st k) more) ≡ first_end next more)
      [ true ↦ λ f. cc | false ↦ λ f. let same : state_after st k ≡ next = cc in rw same refl ] e

-- from a place up to the next `<` or dash
module _ (s : List ℕ) (from at to : ℕ) (low : from ≤ at) (high : at ≤ to) (inside : to ≤ length s) (none : (j : ℕ) → j < to - at → Passes (is_byte2 60 45) (drop at s) j → ⊥) where
  pub marks_between : marks_from (at - from) (drop at s) ≡ marks_from (to - from) (drop to s)
  marks_between =
      let long : length (drop at s) ≡ length s - at = length-drop at s in
      let there : drop (to - at) (drop at s) ≡ drop to s = drop-drop (to - at) at s ∙ ap (λ m. drop m s) (omega arith) in
      let place : at - from + (to - at) ≡ to - from = omega arith in
      marks_passed (at - from) (drop at s) (to - at) (omega arith) (λ k l. mark_missing (drop at s) k (omega arith) (none k l)) ∙ rw (place, there) refl

  pub ends_at : (st : ScriptState) → to < length s → None ≡ next_state st (mark_at (drop to s)) → first_end st (marks_from (at - from) (drop at s)) ≡ Some (to - from)
  ends_at st h e =
      ap (first_end st) (marks_between ∙ marks_at (to - from) s to h) ∙ ends_here st (to - from) (marks_from (suc (to - from)) (drop (to + 1) s)) (mark_at (drop to s)) (sym e)

  pub goes_past : (st next : ScriptState) → to < length s → Some next ≡ next_state st (mark_at (drop to s)) → first_end st (marks_from (at - from) (drop at s)) ≡ first_end next (marks_from (to + 1 - from) (drop (to + 1) s))
  goes_past st next h e =
      let place : suc (to - from) ≡ to + 1 - from = omega arith in
      ap (first_end st) (marks_between ∙ marks_at (to - from) s to h) ∙ goes_on st (to - from) (marks_from (suc (to - from)) (drop (to + 1) s)) (mark_at (drop to s)) next (sym e)
      ∙ ap (λ i. first_end next (marks_from i (drop (to + 1) s))) place

-- without a mark up to the end
pub never_ends : (st : ScriptState) (s : List ℕ) (from at : ℕ) → from ≤ at → at ≤ length s → ((j : ℕ) → j < length s - at → Passes (is_byte2 60 45) (drop at s) j → ⊥) → first_end st (marks_from (at - from) (drop at s)) ≡ None
never_ends st s from at low high none =
    ap (first_end st) (marks_between s from at (length s) low high (omega arith) none ∙ ap (marks_from (length s - from)) (drop_all (length s) s (omega arith)))

pub byte_is_ascii : (c : ℕ) → is_byte2 60 45 c ≡ true → c < 128
byte_is_ascii c e = grind (arith, nat_tests)
