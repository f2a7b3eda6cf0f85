-- What is decided of some bytes, from how far they are UTF-8 and where a zero byte is.
use Rattle.std.proofs.Common.{◌≡◌, ◌≢◌, ℕ, suc, pred, ◌+◌, ◌<◌, Bool, true, false, cond, ◌==◌, nat_lt, List, [], ◌∷◌, ◌++◌, length, take, drop, Option, Some, None, is_some, refl, sym, ap, subst, ◌∙◌, arith, length-append, nat_eq}
use Rattle.std.specs.Str.{IsUtf8, IsValidUpTo}
use Rattle.std.specs.Str.Lossy.{utf8_valid_len, utf8_error_len}
use Rattle.std.proofs.lemmas.Bool.{eq-eqb, eqb-true}
use Rattle.std.proofs.lemmas.Bool.Decides.{nat_tests}
use Rattle.std.proofs.lemmas.List.{take-append-drop, take_at, length-take-le}
use Rattle.std.proofs.lemmas.Str.{utf8_valid_len-IsUtf8}
use Rattle.memchr.specs.Find.{IsFirstByte, is_byte}
use Rattle.hm_base.specs.declared.rules.Rule.{Rule}
use Rattle.hm_base.specs.declared.rules.Rule.TheVariants.{NotUtf8, Nul}
use Rattle.hm_base.specs.Bytes.{all_pass}
use Rattle.hm_base.specs.Places.{is_nonzero}
use Rattle.hm_base.specs.Source.{Refusal, bad_sequence, earlier, refusal_at, text_fault, zero_from}
use Rattle.hm_base.proofs.Bytes.{all_pass_first}
use Rattle.hm_base.proofs.Faults.{fault_of_text, fault_of_bytes, zero_first, zero_none}
use Rattle.hm_decoder.specs.Fed.{lasting_bad, lasting_fault, ends_with_return, decided_len}
use Rattle.hm_decoder.specs.Pieces.{told_at}
use Rattle.hm_decoder.proofs.Ends.{unfinished_nonzero, take_whole}
use Rattle.hm_decoder.proofs.Faults.{bad_place, no_zero_there, nul_first, some_bad, unfinished_lasts, whole_lasts, zero_after}
use Rattle.hm_decoder.proofs.Texts.{len_return, len_unfinished, len_whole, no_bad_there}

-- ---- faults

utf8_has_none : (s : List ℕ) → IsUtf8 s → bad_sequence s ≡ None
utf8_has_none s u = rw (utf8_valid_len-IsUtf8 s u, eq-eqb (length s) (length s) refl) refl

-- of bytes that are UTF-8 each fault lasts
pub lasting_of_text : (s : List ℕ) → IsUtf8 s → lasting_fault s ≡ text_fault s
lasting_of_text s u = ap (λ o. earlier o (zero_from 0 s)) (whole_lasts s u ∙ sym (utf8_has_none s u))

pub told_nul : (place at : ℕ) (s : List ℕ) → lasting_fault s ≡ Some (refusal_at Nul at) → told_at place (lasting_fault s) ≡ Some (Nul, place + at)
told_nul place at s e = ap (told_at place) e

pub text_has_none : (s : List ℕ) → IsUtf8 s → IsFirstByte (is_byte 0) s None → lasting_fault s ≡ None
text_has_none s u h = lasting_of_text s u ∙ fault_of_text s None u h

pub text_has_nul : (s : List ℕ) (place at : ℕ) → IsUtf8 s → IsFirstByte (is_byte 0) s (Some at) → told_at place (lasting_fault s) ≡ Some (Nul, place + at)
text_has_nul s place at u h = told_nul place at s (lasting_of_text s u ∙ fault_of_text s (Some at) u h)

abbrev place_of : Option Refusal → Option ℕ
place_of None = None
place_of (Some r) = Some r.at

abbrev is_nul : Rule → Bool
is_nul Nul = true
is_nul rule = false

abbrev is_nul_fault : Option Refusal → Bool
is_nul_fault None = false
is_nul_fault (Some r) = is_nul r.rule

no : {b : Bool} → b ≡ true → b ≡ false → ⊥
no e f = cc

-- a zero byte is at the place of the fault
nul_there : (bad nul : Option ℕ) (at : ℕ) → earlier bad nul ≡ Some (refusal_at Nul at) → nul ≡ Some at
nul_there None None at h = cc
nul_there None (Some z) at h = ap place_of h
nul_there (Some v) None at h = absurd (no refl (sym (ap is_nul_fault h)))
nul_there (Some v) (Some z) at h = by (nat_lt z v) h
  where
    by : (b : Bool) → cond b (Some (refusal_at Nul z)) (Some (refusal_at NotUtf8 v)) ≡ Some (refusal_at Nul at) → Some z ≡ Some at
    by true k = ap place_of k
    by false k = absurd (no refl (sym (ap is_nul_fault k)))

pub bytes_have_nul : (s : List ℕ) (bad place at : ℕ) → IsValidUpTo s bad → bad ≡ utf8_valid_len s → IsFirstByte (is_byte 0) (take bad s) (Some at) → told_at place (lasting_fault s) ≡ Some (Nul, place + at)
bytes_have_nul s bad place at v e h =
    let there : zero_from 0 s ≡ Some at = nul_there (bad_sequence s) (zero_from 0 s) at (zero_first s bad at v e h) in
    let short = v.short in
    let high = h.0.high in
    let low : at < bad = omega (arith, length-take-le bad s (omega arith)) in
    told_nul place at s (ap (earlier (lasting_bad s)) there ∙ nul_first (lasting_bad s) at (λ x f. let p = bad_place s x f in omega arith))

pub bytes_are_bad : (s : List ℕ) (bad place : ℕ) → IsValidUpTo s bad → bad ≡ utf8_valid_len s → is_some (utf8_error_len (drop bad s)) ≡ true → IsFirstByte (is_byte 0) (take bad s) None → told_at place (lasting_fault s) ≡ Some (NotUtf8, place + bad)
bytes_are_bad s bad place v e k h =
    let short = v.short in
    let differs : nat_eq (utf8_valid_len s) (length s) ≡ false = grind (arith, nat_tests) in
    let one : lasting_bad s ≡ Some (utf8_valid_len s) = some_bad s (ap (λ n. is_some (utf8_error_len (drop n s))) (sym e) ∙ k) in
    let two : bad_sequence s ≡ Some (utf8_valid_len s) = rw differs refl in
    ap (told_at place) (ap (λ o. earlier o (zero_from 0 s)) (one ∙ sym two) ∙ fault_of_bytes s bad None v e h)

pub bytes_have_none : (s : List ℕ) (bad : ℕ) → IsValidUpTo s bad → bad ≡ utf8_valid_len s → utf8_error_len (drop bad s) ≡ None → IsFirstByte (is_byte 0) (take bad s) None → lasting_fault s ≡ None
bytes_have_none s bad v e k h =
    let short = v.short in
    let front : zero_from 0 (take bad s) ≡ None = zero_none (take bad s) 0 (λ i l z. h i (omega arith) l (ap (λ n. n == 0) z)) in
    let none : zero_from 0 s ≡ None = ap (zero_from 0) (sym (take-append-drop bad s)) ∙ zero_after (take bad s) (drop bad s) 0 front ∙ no_zero_there (drop bad s) (0 + length (take bad s)) (unfinished_nonzero (drop bad s) k) in
    ap (λ o. earlier o (zero_from 0 s)) (unfinished_lasts s (ap (λ n. utf8_error_len (drop n s)) (sym e) ∙ k)) ∙ ap (earlier None) none

-- ---- the decided front

ends_so : (front : List ℕ) → ends_with_return (front ++ 13 ∷ []) ≡ true
ends_so [] = refl
ends_so (c ∷ []) = refl
ends_so (c ∷ d ∷ s) = ends_so (d ∷ s)

ends_not : (s : List ℕ) → ((front : List ℕ) → s ≢ front ++ 13 ∷ []) → ends_with_return s ≡ false
ends_not [] h = refl
ends_not (c ∷ []) h = by (c == 13) refl
  where
    by : (b : Bool) → (c == 13) ≡ b → b ≡ false
    by false e = refl
    by true e = absurd (h [] (ap (λ k. k ∷ []) (eqb-true c 13 e)))
ends_not (c ∷ d ∷ s) h = ends_not (d ∷ s) (λ front e. h (c ∷ front) (ap (λ l. c ∷ l) e))

pub without_return : (s front : List ℕ) → IsUtf8 s → s ≡ front ++ 13 ∷ [] → front ≡ take (decided_len s) s
without_return s front u e =
    let size : length s ≡ length front + 1 = ap length e ∙ length-append front (13 ∷ []) in
    let next : length front + 1 ≡ suc (length front) = omega arith in
    let len : decided_len s ≡ length front = len_return s u (ap ends_with_return e ∙ ends_so front) ∙ ap pred (size ∙ next) in
    sym (ap (λ n. take n s) len ∙ ap (take (length front)) e ∙ take_at front (13 ∷ []) (length front) refl)

pub with_no_return : (s : List ℕ) → IsUtf8 s → ((front : List ℕ) → s ≢ front ++ 13 ∷ []) → s ≡ take (decided_len s) s
with_no_return s u h = sym (ap (λ n. take n s) (len_whole s u (ends_not s h)) ∙ take_whole s)

pub front_of_bytes : (s : List ℕ) (bad : ℕ) → IsValidUpTo s bad → bad ≡ utf8_valid_len s → take bad s ≡ take (decided_len s) s
front_of_bytes s bad v e =
    let short = v.short in
    ap (λ n. take n s) (e ∙ sym (len_unfinished s (omega arith)))

nonzero_from : (s : List ℕ) (n : ℕ) → zero_from n s ≡ None → all_pass is_nonzero s ≡ true
nonzero_from [] n h = refl
nonzero_from (c ∷ s) n h = by (nat_eq c 0) h (nonzero_from s (n + 1)) refl
  where
    by : (b : Bool) → cond b (Some n) (zero_from (n + 1) s) ≡ None → (zero_from (n + 1) s ≡ None → all_pass is_nonzero s ≡ true) → nat_eq c 0 ≡ b → all_pass is_nonzero (c ∷ s) ≡ true
    by true h more e = cc
    by false h more e = rw e (more h)

pub decided_nonzero : (s : List ℕ) (n : ℕ) → lasting_fault s ≡ None → all_pass is_nonzero (take n s) ≡ true
decided_nonzero s n h = all_pass_first is_nonzero (take n s) (drop n s) (subst (λ l. all_pass is_nonzero l ≡ true) (sym (take-append-drop n s)) (nonzero_from s 0 (no_bad_there (lasting_bad s) (zero_from 0 s) h).1))
