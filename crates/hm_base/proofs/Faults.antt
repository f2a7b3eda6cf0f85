-- The first fault of a page, from a search for a zero byte and from where its bytes stop being UTF-8.
use Rattle.std.proofs.Common.{◌≡◌, ◌≢◌, ℕ, zero, suc, ◌+◌, ◌<◌, ◌≤◌, Bool, true, false, cond, not, ◌&&◌, List, [], ◌∷◌, Option, Some, None, length, get_or, take, refl, sym, ap, ◌∙◌, arith, nat_eq, ltb, add-zero, zero-add}
use Rattle.std.specs.Str.{IsUtf8, IsValidUpTo}
use Rattle.std.specs.Str.Lossy.{utf8_valid_len}
use Rattle.std.specs.Bool.{nat_lt}
use Rattle.std.proofs.lemmas.Bool.{eqb-true, eq-eqb, lt-ltb, le-ltb}
use Rattle.std.proofs.lemmas.Bool.Decides.{nat_tests}
use Rattle.std.proofs.lemmas.List.{get_or-take, length-take}
use Rattle.std.proofs.lemmas.Str.{utf8_valid_len-IsUtf8}
use Rattle.memchr.specs.Find.{IsFirstByte, is_byte}
use Rattle.hm_base.specs.declared.rules.Rule.TheVariants.{NotUtf8, Nul, TooLong}
use Rattle.hm_base.specs.Bytes.{all_pass}
use Rattle.hm_base.specs.Faults.{page_fault}
use Rattle.hm_base.specs.Places.{is_nonzero}
use Rattle.hm_base.specs.Source.{Refusal, bad_sequence, earlier, refusal_at, text_fault, zero_from}

not_zero : (c : ℕ) → c ≢ 0 → nat_eq c 0 ≡ false
not_zero c h = grind (arith, nat_tests)

is_zero : (c : ℕ) → c ≡ 0 → nat_eq c 0 ≡ true
is_zero c h = rw h refl

pub zero_none : (s : List ℕ) (n : ℕ) → ((i : ℕ) → i < length s → get_or s i 0 ≢ 0) → zero_from n s ≡ None
zero_none [] n h = refl
zero_none (c ∷ s) n h = rw (not_zero c (h 0 (omega arith))) (zero_none s (n + 1) (λ i l. h (suc i) (omega arith)))

pub zero_at : (s : List ℕ) (n k : ℕ) → k < length s → get_or s k 0 ≡ 0 → ((i : ℕ) → i < k → get_or s i 0 ≢ 0) → zero_from n s ≡ Some (n + k)
zero_at [] n k l z h = absurd (omega arith)
zero_at (c ∷ s) n zero l z h = rw (is_zero c z) (ap (λ m. Some m) (sym (add-zero n)))
zero_at (c ∷ s) n (suc k) l z h =
    let next : n + 1 + k ≡ n + suc k = omega arith in
    rw (not_zero c (h 0 (omega arith))) (zero_at s (n + 1) k (omega arith) z (λ i a. h (suc i) (omega arith)) ∙ ap (λ m. Some m) next)

-- a bad sequence at m comes before a zero byte from n on
later : (s : List ℕ) (n m : ℕ) → m ≤ n → earlier (Some m) (zero_from n s) ≡ Some (refusal_at NotUtf8 m)
later [] n m l = refl
later (c ∷ s) n m l = at_byte (nat_eq c 0) s n m l (later s (n + 1) m (omega arith)) where
  at_byte : (b : Bool) (s : List ℕ) (n m : ℕ) → m ≤ n → earlier (Some m) (zero_from (n + 1) s) ≡ Some (refusal_at NotUtf8 m) → earlier (Some m) (cond b (Some n) (zero_from (n + 1) s)) ≡ Some (refusal_at NotUtf8 m)
  at_byte true s n m l h = grind (arith, nat_tests)
  at_byte false s n m l h = h

none_before : (s : List ℕ) (n b : ℕ) → ((i : ℕ) → i < b → i < length s → get_or s i 0 ≢ 0) → earlier (Some (n + b)) (zero_from n s) ≡ Some (refusal_at NotUtf8 (n + b))
none_before s n zero h = rw add-zero (later s n n (omega arith))
none_before [] n (suc b) h = refl
none_before (c ∷ s) n (suc b) h =
    let next : n + suc b ≡ n + 1 + b = omega arith in
    rw (not_zero c (h 0 (omega arith) (omega arith)), next) (none_before s (n + 1) b (λ i a l. h (suc i) (omega arith) (omega arith)))

utf8_has_none : (page : List ℕ) → IsUtf8 page → bad_sequence page ≡ None
utf8_has_none page u = rw (utf8_valid_len-IsUtf8 page u, eq-eqb (length page) (length page) refl) refl

bad_is : (page : List ℕ) (bad : ℕ) → bad < length page → bad ≡ utf8_valid_len page → bad_sequence page ≡ Some bad
bad_is page bad l e =
    let differs : nat_eq bad (length page) ≡ false = grind (arith, nat_tests) in
    rw (sym e, differs) refl

-- a page that is UTF-8
pub fault_of_text : (page : List ℕ) (zero : Option ℕ) → IsUtf8 page → IsFirstByte (is_byte 0) page zero → text_fault page ≡ earlier None zero
fault_of_text page None u h =
    rw (utf8_has_none page u, zero_none page 0 (λ i l e. h i (omega arith) l (is_zero _ e))) refl
fault_of_text page (Some at) u h =
    rw (utf8_has_none page u, zero_at page 0 at h.0.high (eqb-true _ _ h.1) (λ i l e. h.0.before i (omega arith) l (is_zero _ e)), zero-add) refl

-- a page that stops being UTF-8
pub fault_of_bytes : (page : List ℕ) (bad : ℕ) (zero : Option ℕ) → IsValidUpTo page bad → bad ≡ utf8_valid_len page → IsFirstByte (is_byte 0) (take bad page) zero → text_fault page ≡ earlier (Some bad) zero
fault_of_bytes page bad None v e h =
    let short = v.short in
    rw (bad_is page bad short e) (ap (λ m. earlier (Some m) (zero_from 0 page)) (sym (zero-add bad)) ∙ none_before page 0 bad (λ i a l z. h i (omega arith) (omega (arith, length-take bad page)) (is_zero _ (get_or-take bad page i 0 a ∙ z))) ∙ ap (λ m. Some (refusal_at NotUtf8 m)) (zero-add bad))
fault_of_bytes page bad (Some at) v e h =
    let short = v.short in
    let high = h.0.high in
    let low : at < bad = omega (arith, length-take bad page) in
    rw (bad_is page bad short e, zero_at page 0 at (omega arith) (sym (get_or-take bad page at 0 low) ∙ eqb-true _ _ h.1) (λ i a z. h.0.before i (omega arith) a (is_zero _ (get_or-take bad page i 0 (omega arith) ∙ z))), zero-add) refl

pub zero_first : (page : List ℕ) (bad at : ℕ) → IsValidUpTo page bad → bad ≡ utf8_valid_len page → IsFirstByte (is_byte 0) (take bad page) (Some at) → text_fault page ≡ Some (refusal_at Nul at)
zero_first page bad at v e h =
    let high = h.0.high in
    let low : ltb at bad ≡ true = grind (arith, nat_tests, length-take bad page) in
    fault_of_bytes page bad (Some at) v e h ∙ rw low refl

-- a page with a text has no zero byte
no_zero_of : (bad nul : Option ℕ) → earlier bad nul ≡ None → nul ≡ None
no_zero_of None None h = refl
no_zero_of None (Some nul) h = cc
no_zero_of (Some bad) None h = refl
no_zero_of (Some bad) (Some nul) h = some_fault (ltb nul bad) h where
  some_fault : (b : Bool) → cond b (Some (refusal_at Nul nul)) (Some (refusal_at NotUtf8 bad)) ≡ None → Some nul ≡ None
  some_fault true h = cc
  some_fault false h = cc

nonzero_from : (s : List ℕ) (n : ℕ) → zero_from n s ≡ None → all_pass is_nonzero s ≡ true
nonzero_from [] n h = refl
nonzero_from (c ∷ s) n h = at_byte (nat_eq c 0) h (nonzero_from s (n + 1)) where
  at_byte : (b : Bool) → cond b (Some n) (zero_from (n + 1) s) ≡ None → (zero_from (n + 1) s ≡ None → all_pass is_nonzero s ≡ true) → (not b && all_pass is_nonzero s) ≡ true
  at_byte true h more = cc
  at_byte false h more = more h

pub no_zero : (page : List ℕ) → text_fault page ≡ None → all_pass is_nonzero page ≡ true
no_zero page h = nonzero_from page 0 (no_zero_of (bad_sequence page) (zero_from 0 page) h)

-- ---- the refusal of a page

pub long_fault : (limit : ℕ) (page : List ℕ) → limit < length page → page_fault limit page ≡ Some (refusal_at TooLong limit)
long_fault limit page h = let long : nat_lt limit (length page) ≡ true = lt-ltb limit (length page) h in rw long refl

pub first_fault : (limit : ℕ) (page : List ℕ) (r : Refusal) → length page ≤ limit → text_fault page ≡ Some r → page_fault limit page ≡ Some r
first_fault limit page r h e = let short : nat_lt limit (length page) ≡ false = le-ltb limit (length page) h in rw short e
