-- Where plain text ends.
use Rattle.std.proofs.Common.{◌≡◌, ℕ, zero, suc, ◌+◌, ◌-◌, ◌<◌, ◌≤◌, Bool, true, false, cond, ◌==◌, List, [], ◌∷◌, length, take, drop, get_or, None, refl, ap, subst, ◌∙◌, inl, inr, arith, length-drop}
use Rattle.std.proofs.lemmas.Bool.{cases_lt}
use Rattle.std.proofs.lemmas.List.{drop-drop, get_or-drop}
use Rattle.std.proofs.lemmas.Bool.Decides.{Decides-eqb}
use Rattle.hm_refs.specs.Names.{Entry}
use Rattle.hm_refs.proofs.RunEnds.{rest_cons}
use Rattle.hm_refs.specs.References as refs
use Rattle.hm_scan.specs.Texts.{ends_plain, begins_markup, reference_in, plain_front}
use Rattle.hm_scan.specs.TextPlaces.{reference_here, ends_before, is_sign, IsPlainTo}

-- no plain text ends at a place from one up to another
abbrev pub NoEnd : List Entry → Bool → List ℕ → ℕ → ℕ → Type 0
NoEnd t rcdata s from to = (k : ℕ) → from ≤ k → k < to → ends_before t rcdata (drop k s) ≡ false

-- the prefix up to the first end
front_to : (t : List Entry) (rcdata : Bool) (s : List ℕ) (n : ℕ) → n ≤ length s → ((k : ℕ) → k < n → ends_before t rcdata (drop k s) ≡ false) → (n < length s → ends_before t rcdata (drop n s) ≡ true) → plain_front t rcdata s ≡ take n s
front_to t rcdata [] zero h none stop = refl
front_to t rcdata [] (suc n) h none stop = absurd (omega arith)
front_to t rcdata (c ∷ s) zero h none stop = rw (stop (omega arith)) refl
front_to t rcdata (c ∷ s) (suc n) h none stop =
    let first : ends_plain t rcdata c s ≡ false = none 0 (omega arith) in
    rw first (ap (λ r. c ∷ r) (front_to t rcdata s n (omega arith) (λ k l. none (suc k) (omega arith)) (λ l. stop (omega arith))))

-- before another byte than a sign
no_sign : (t : List Entry) (rcdata : Bool) (c : ℕ) (s : List ℕ) → (is_sign rcdata c ≡ true → ⊥) → ends_plain t rcdata c s ≡ false
unfolding reference_in begins_markup
no_sign t true c s h = elim (c == 38) as (λ b. (c == 38) ≡ b → ends_plain t true c s ≡ false) [ true ↦ λ e. absurd (h e) | false ↦ λ e. rw e refl ] refl
no_sign t false c s h = by_bytes (c == 60) refl (c == 38) refl
  where
    by_bytes : (a : Bool) → (c == 60) ≡ a → (b : Bool) → (c == 38) ≡ b → ends_plain t false c s ≡ false
    by_bytes true e b f = absurd (h (rw e refl))
    by_bytes false e true f = absurd (h (rw (e, f) refl))
    by_bytes false e false f = rw (e, f) refl

no_sign_at : (t : List Entry) (rcdata : Bool) (s : List ℕ) (n : ℕ) → n < length s → (is_sign rcdata (get_or s n 0) ≡ true → ⊥) → ends_before t rcdata (drop n s) ≡ false
no_sign_at t rcdata s n h never = ap (ends_before t rcdata) (rest_cons s n h) ∙ no_sign t rcdata (get_or s n 0) (drop (n + 1) s) never

-- a sign is ASCII
pub sign_low : (rcdata : Bool) (c : ℕ) → is_sign rcdata c ≡ true → c < 128
sign_low true c h = let e : c ≡ 38 = (Decides-eqb c 38).0 h in omega arith
sign_low false c h = grind arith

-- no plain text ends before the next sign
pub none_before : (t : List Entry) (rcdata : Bool) (s : List ℕ) (from at to : ℕ) → to ≤ length s → NoEnd t rcdata s from at → ((j : ℕ) → j < to - at → is_sign rcdata (get_or (drop at s) j 0) ≡ true → ⊥) → NoEnd t rcdata s from to
none_before t rcdata s from at to inside none signs k low high = elim (cases_lt k at) [
  | inl h ↦ none k low h
  | inr h ↦
      let there : get_or (drop at s) (k - at) 0 ≡ get_or s k 0 = get_or-drop at s (k - at) 0 ∙ ap (λ m. get_or s m 0) (omega arith) in
      no_sign_at t rcdata s k (omega arith) (rw there at (signs (k - at) (omega arith)))
]

-- nor at it, where none ends there
pub none_at : (t : List Entry) (rcdata : Bool) (s : List ℕ) (from to : ℕ) → NoEnd t rcdata s from to → ends_before t rcdata (drop to s) ≡ false → NoEnd t rcdata s from (to + 1)
none_at t rcdata s from to none here k low high = elim (cases_lt k to) [
  | inl h ↦ none k low h
  | inr h ↦ let same : to ≡ k = omega arith in subst (λ m. ends_before t rcdata (drop m s) ≡ false) same here
]

pub plain_to : (t : List Entry) (rcdata : Bool) (s : List ℕ) (from to : ℕ) → from ≤ to → to ≤ length s → NoEnd t rcdata s from to → (to < length s → ends_before t rcdata (drop to s) ≡ true) → (to < length s → get_or s to 0 < 128) → IsPlainTo t rcdata s from to
plain_to t rcdata s from to low high none stop ascii =
    let long : length (drop from s) ≡ length s - from = length-drop from s in
    let there : drop (to - from) (drop from s) ≡ drop to s = drop-drop (to - from) from s ∙ ap (λ m. drop m s) (omega arith) in
    record {
      forward = low;
      inside = high;
      is = front_to t rcdata (drop from s) (to - from) (omega arith) (λ k l. rw (drop-drop k from s) (none (from + k) (omega arith) (omega arith))) (λ l. rw there (stop (omega arith)));
      ascii = ascii;
    }

-- by what stands first

pub here_amp : (t : List Entry) (s : List ℕ) → 0 < length s → get_or s 0 0 ≡ 38 → reference_here t s ≡ refs.reference t false s
unfolding reference_in
here_amp t [] h e = absurd (omega arith)
here_amp t (c ∷ s) h e = rw e refl

pub here_other : (t : List Entry) (s : List ℕ) → (get_or s 0 0 ≡ 38 → ⊥) → reference_here t s ≡ None
unfolding reference_in
here_other t [] never = refl
here_other t (c ∷ s) never = elim (c == 38) as (λ b. (c == 38) ≡ b → cond b (refs.reference t false (c ∷ s)) None ≡ None) [ true ↦ λ e. absurd (never ((Decides-eqb c 38).0 e)) | false ↦ λ e. refl ] refl
