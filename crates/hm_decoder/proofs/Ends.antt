-- How bytes end: they are UTF-8, or they stop being it for good, or within a character.
use Rattle.std.proofs.Common.{◌≡◌, ℕ, zero, suc, ◌+◌, ◌<◌, ◌≤◌, ◌⊎◌, inl, inr, Bool, true, false, cond, ◌==◌, List, [], ◌∷◌, ◌++◌, length, slice_index, take, drop, Option, Some, None, is_some, refl, sym, ap, subst, ◌∙◌, arith, nat_lt, length-append, ⊎_elim}
use lib.Utf8.{encode}
use Rattle.std.specs.Int.{is_in_range}
use Rattle.std.specs.Str.{IsUtf8, IsValidUpTo, StartsWithNoChar, is_utf8}
use Rattle.std.specs.Str.Lossy.{valid_len_up_to, utf8_valid_len, utf8_error_len, second_byte_min, second_byte_max}
use Rattle.std.proofs.str.Faults.{valid_to}
use Rattle.std.proofs.str.Valid.{longer}
use Rattle.std.proofs.lemmas.Bool.{cases_lt}
use Rattle.std.proofs.lemmas.Bool.Decides.{nat_tests}
use Rattle.std.proofs.lemmas.List.{length-drop, take_all, take_at, take-append-le, drop-append-le}
use Rattle.std.proofs.lemmas.Str.{IsUtf8-append, IsUtf8-encode, IsUtf8-nil, length-encode, len_utf8_bounds, utf8_valid_len-IsUtf8, utf8_valid_len-IsValidUpTo, IsUtf8-from_is_utf8, is_utf8-from_IsUtf8}
use Rattle.hm_base.specs.Bytes.{all_pass}
use Rattle.hm_base.specs.Places.{is_nonzero}
use Rattle.hm_decoder.proofs.Utf8.{none_follows}

-- ---- the longest front that is UTF-8

longest_front : (bs : List ℕ) (m : ℕ) → IsUtf8 (take (valid_len_up_to bs m) bs) × ((k : ℕ) → valid_len_up_to bs m < k → k ≤ m → IsUtf8 (take k bs) → ⊥)
longest_front bs zero = (IsUtf8-nil, λ k l h u. omega arith)
longest_front bs (suc m) = by (is_utf8 (take (suc m) bs)) refl (longest_front bs m)
  where
    by : (b : Bool) → is_utf8 (take (suc m) bs) ≡ b → IsUtf8 (take (valid_len_up_to bs m) bs) × ((k : ℕ) → valid_len_up_to bs m < k → k ≤ m → IsUtf8 (take k bs) → ⊥)
        → IsUtf8 (take (cond b (suc m) (valid_len_up_to bs m)) bs) × ((k : ℕ) → cond b (suc m) (valid_len_up_to bs m) < k → k ≤ suc m → IsUtf8 (take k bs) → ⊥)
    by true e below = (IsUtf8-from_is_utf8 _ e, λ k l h u. omega arith)
    by false e below =
        (below.0, λ k l h u. ⊎_elim (λ (low : k < suc m). below.1 k l (omega arith) u) (λ (high : suc m ≤ k). let same : k ≡ suc m = omega arith in no (is_utf8-from_IsUtf8 _ (subst (λ n. IsUtf8 (take n bs)) same u)) e) (cases_lt k (suc m)))
      where
        no : {b : Bool} → b ≡ true → b ≡ false → ⊥
        no h i = cc

pub text_or_fault : (bs : List ℕ) → IsUtf8 bs ⊎ IsValidUpTo bs (utf8_valid_len bs)
unfolding utf8_valid_len
text_or_fault bs =
    let n = utf8_valid_len bs in
    let front = longest_front bs (length bs) in
    ⊎_elim
    (λ (short : n < length bs). inr (record {
      short = short;
      front = front.0;
      longest = λ m above u. ⊎_elim
          (λ (past : length bs < m). front.1 (length bs) short (omega arith) (subst IsUtf8 (take_all m bs (omega arith) ∙ sym (take_all (length bs) bs (omega arith))) u))
          (λ (within : m ≤ length bs). front.1 m above within u)
          (cases_lt (length bs) m);
    }))
    (λ (whole : length bs ≤ n). inl (subst IsUtf8 (take_all n bs whole) front.0))
    (cases_lt n (length bs))

-- any front that is UTF-8 is no longer
pub at_least : (bs : List ℕ) (n : ℕ) → n ≤ length bs → IsUtf8 (take n bs) → n ≤ utf8_valid_len bs
at_least bs n h u = ⊎_elim
    (λ text. let e = utf8_valid_len-IsUtf8 bs text in omega arith)
    (λ valid. ⊎_elim (λ (low : utf8_valid_len bs < n). absurd (valid.longest n low u)) (λ (fine : n ≤ utf8_valid_len bs). fine) (cases_lt (utf8_valid_len bs) n))
    (text_or_fault bs)

-- no character begins where bytes stop being UTF-8
pub none_there : (s : List ℕ) (v : ℕ) → IsValidUpTo s v → StartsWithNoChar (drop v s)
none_there s v valid c rest scalar is =
    let one : take (length (encode c)) (drop v s) ≡ encode c = ap (take (length (encode c))) is ∙ take_at (encode c) rest (length (encode c)) refl in
    let some = encode_some c in
    valid.longest (v + length (encode c)) (omega arith) (longer s v (length (encode c)) valid.front (subst IsUtf8 (sym one) (IsUtf8-encode c scalar)))
  where
    encode_some : (c : ℕ) → 0 < length (encode c)
    encode_some c = let b = len_utf8_bounds c in let l = length-encode c in omega arith

pub data Ends (s : List ℕ) : Type 0 where
  whole : IsUtf8 s → Ends s
  bad : IsValidUpTo s (utf8_valid_len s) → is_some (utf8_error_len (drop (utf8_valid_len s) s)) ≡ true → Ends s
  unfinished : IsValidUpTo s (utf8_valid_len s) → utf8_error_len (drop (utf8_valid_len s) s) ≡ None → Ends s

pub how_it_ends : (s : List ℕ) → Ends s
how_it_ends s = ⊎_elim (λ u. whole u) (λ v. by v (utf8_error_len (drop (utf8_valid_len s) s)) refl) (text_or_fault s)
  where
    by : IsValidUpTo s (utf8_valid_len s) → (o : Option ℕ) → utf8_error_len (drop (utf8_valid_len s) s) ≡ o → Ends s
    by v None e = unfinished v e
    by v (Some k) e = bad v (ap is_some e)

-- ---- more bytes after them

-- a fault stays where it is
pub stays_bad : (s y : List ℕ) (v : ℕ) → IsValidUpTo s v → is_some (utf8_error_len (drop v s)) ≡ true → IsValidUpTo (s ++ y) v
stays_bad s y v valid err =
    let short = valid.short in
    let rest : drop v (s ++ y) ≡ drop v s ++ y = drop-append-le v s y (omega arith) in
    valid_to (s ++ y) v (omega (arith, length-append s y)) (subst IsUtf8 (sym (take-append-le v s y (omega arith))) valid.front)
    (subst StartsWithNoChar (sym rest) (none_follows (drop v s) y (omega (arith, length-drop v s)) (none_there s v valid) err))

pub front_after : (p x : List ℕ) (v : ℕ) → take (length p + v) (p ++ x) ≡ p ++ take v x
front_after [] x v = ap (λ n. take n x) (omega arith)
front_after (c ∷ p) x v = let e : suc (length p) + v ≡ suc (length p + v) = omega arith in ap (λ n. take n (c ∷ (p ++ x))) e ∙ ap (λ l. c ∷ l) (front_after p x v)

pub drop_past_front : (p x : List ℕ) (v : ℕ) → drop (length p + v) (p ++ x) ≡ drop v x
drop_past_front [] x v = ap (λ n. drop n x) (omega arith)
drop_past_front (c ∷ p) x v = let e : suc (length p) + v ≡ suc (length p + v) = omega arith in ap (λ n. drop n (c ∷ (p ++ x))) e ∙ drop_past_front p x v

-- after a text it is as by itself
pub after_text : (p x : List ℕ) (v : ℕ) → IsUtf8 p → IsValidUpTo x v → IsValidUpTo (p ++ x) (length p + v)
after_text p x v u valid =
    let short = valid.short in
    let front : take (length p + v) (p ++ x) ≡ p ++ take v x = front_after p x v in
    let rest : drop (length p + v) (p ++ x) ≡ drop v x = drop_past_front p x v in
    valid_to (p ++ x) (length p + v) (omega (arith, length-append p x)) (subst IsUtf8 (sym front) (IsUtf8-append p (take v x) u valid.front)) (subst StartsWithNoChar (sym rest) (none_there x v valid))

pub valid_len_after : (p x : List ℕ) → IsUtf8 p → utf8_valid_len (p ++ x) ≡ length p + utf8_valid_len x
valid_len_after p x u = ⊎_elim
    (λ text. utf8_valid_len-IsUtf8 (p ++ x) (IsUtf8-append p x u text) ∙ length-append p x ∙ ap (λ n. length p + n) (sym (utf8_valid_len-IsUtf8 x text)))
    (λ valid. utf8_valid_len-IsValidUpTo (p ++ x) (length p + utf8_valid_len x) (after_text p x (utf8_valid_len x) u valid))
    (text_or_fault x)

-- ---- the front of a character has no zero byte

in_range : (lo hi c : ℕ) → is_in_range lo hi c ≡ true → lo ≤ c
in_range lo hi c h = grind (arith, nat_tests)

nonzero : (c : ℕ) → 0 < c → is_nonzero c ≡ true
nonzero c h = grind (arith, nat_tests)

least_pos : (a : ℕ) → 0 < second_byte_min a
least_pos a = by (a == 224) (a == 240)
  where
    by : (x y : Bool) → 0 < cond x 160 (cond y 144 128)
    by true y = omega arith
    by false true = omega arith
    by false false = omega arith

none_or : {A : Type 0} (b : Bool) (o : Option A) (x : A) → cond b o (Some x) ≡ None → b ≡ true
none_or true o x h = refl
none_or false o x h = cc

abbrev found : ℕ → Option ℕ
found n = Some n

no_some : (n : ℕ) → found n ≡ None → ⊥
no_some n e = cc

pub unfinished_nonzero : (x : List ℕ) → utf8_error_len x ≡ None → all_pass is_nonzero x ≡ true
unfolding utf8_error_len
unfinished_nonzero [] h = refl
unfinished_nonzero (a ∷ []) h =
    let first = none_or (is_in_range 0xC2 0xF4 a) None 1 h in
    let a_pos = in_range 0xC2 0xF4 a first in
    rw (nonzero a (omega arith)) refl
unfinished_nonzero (a ∷ b ∷ []) h =
    let first = none_or (is_in_range 0xC2 0xF4 a) (cond (is_in_range (second_byte_min a) (second_byte_max a) b) None (Some 1)) 1 h in
    let second = none_or (is_in_range (second_byte_min a) (second_byte_max a) b) None 1 (rw first at h) in
    let a_pos = in_range 0xC2 0xF4 a first in
    let b_pos = in_range (second_byte_min a) (second_byte_max a) b second in
    let l = least_pos a in
    rw (nonzero a (omega arith), nonzero b (omega arith)) refl
unfinished_nonzero (a ∷ b ∷ d ∷ []) h =
    let inner : Option ℕ = cond (is_in_range 0x80 0xBF d) None (Some 2) in
    let first = none_or (is_in_range 0xC2 0xF4 a) (cond (is_in_range (second_byte_min a) (second_byte_max a) b) inner (Some 1)) 1 h in
    let second = none_or (is_in_range (second_byte_min a) (second_byte_max a) b) inner 1 (rw first at h) in
    let third = none_or (is_in_range 0x80 0xBF d) None 2 (rw (first, second) at h) in
    let a_pos = in_range 0xC2 0xF4 a first in
    let b_pos = in_range (second_byte_min a) (second_byte_max a) b second in
    let d_pos = in_range 0x80 0xBF d third in
    let l = least_pos a in
    rw (nonzero a (omega arith), nonzero b (omega arith), nonzero d (omega arith)) refl
unfinished_nonzero (a ∷ b ∷ d ∷ e ∷ x) h = absurd (by (is_in_range 0xC2 0xF4 a) (is_in_range (second_byte_min a) (second_byte_max a) b) (is_in_range 0x80 0xBF d) (suc (suc (suc (suc (length x))))) (some (length x)) h)
  where
    some : (n : ℕ) → (nat_lt (suc (suc (suc (suc n)))) 2 ≡ false) × (nat_lt (suc (suc (suc (suc n)))) 3 ≡ false) × (nat_lt (suc (suc (suc (suc n)))) 4 ≡ false) × ((suc (suc (suc (suc n))) == 0) ≡ false)
    some n = (grind (arith, nat_tests), grind (arith, nat_tests), grind (arith, nat_tests), grind (arith, nat_tests))

    by : (p q r : Bool) (n : ℕ) → (nat_lt n 2 ≡ false) × (nat_lt n 3 ≡ false) × (nat_lt n 4 ≡ false) × ((n == 0) ≡ false)
        → cond (n == 0) None (cond p (cond (nat_lt n 2) None (cond q (cond (nat_lt n 3) None (cond r (cond (nat_lt n 4) None (found 3)) (found 2))) (found 1))) (found 1)) ≡ None → ⊥
    by true true true n k h = no_some 3 (rw (k.3, k.0, k.1, k.2) at h)
    by true true false n k h = no_some 2 (rw (k.3, k.0, k.1) at h)
    by true false r n k h = no_some 1 (rw (k.3, k.0) at h)
    by false q r n k h = no_some 1 (rw k.3 at h)

-- ---- a fault that is told stays told

pub take_whole : (s : List ℕ) → take (length s) s ≡ s
take_whole [] = refl
take_whole (c ∷ s) = ap (λ l. c ∷ l) (take_whole s)

-- the length of the fault of n bytes, by whether the first three may stand there
abbrev fault_by : ℕ → Bool → Bool → Bool → Option ℕ
fault_by n p q r = cond (n == 0) None (cond p (cond (nat_lt n 2) None (cond q (cond (nat_lt n 3) None (cond r (cond (nat_lt n 4) None (found 3)) (found 2))) (found 1))) (found 1))

no_none : (o : Option ℕ) → o ≡ None → is_some o ≡ true → ⊥
no_none None e h = cc
no_none (Some n) e h = cc

some_byte : (n : ℕ) → (suc n == 0) ≡ false
some_byte n = grind (arith, nat_tests)

one_stays : (n : ℕ) (p q r : Bool) → is_some (fault_by 1 p q r) ≡ true → is_some (fault_by (suc n) p q r) ≡ true
one_stays n true q r h = absurd (no_none None refl h)
one_stays n false q r h = rw (some_byte n) refl

two_stay : (n : ℕ) (p q r : Bool) → is_some (fault_by 2 p q r) ≡ true → is_some (fault_by (suc (suc n)) p q r) ≡ true
two_stay n true true r h = absurd (no_none None refl h)
two_stay n true false r h = let test : nat_lt (suc (suc n)) 2 ≡ false = grind (arith, nat_tests) in rw (some_byte (suc n), test) refl
two_stay n false q r h = rw (some_byte (suc n)) refl

three_stay : (n : ℕ) (p q r : Bool) → is_some (fault_by 3 p q r) ≡ true → is_some (fault_by (suc (suc (suc n))) p q r) ≡ true
three_stay n true true true h = absurd (no_none None refl h)
three_stay n true true false h =
    let two : nat_lt (suc (suc (suc n))) 2 ≡ false = grind (arith, nat_tests) in
    let three : nat_lt (suc (suc (suc n))) 3 ≡ false = grind (arith, nat_tests) in
    rw (some_byte (suc (suc n)), two, three) refl
three_stay n true false r h = let test : nat_lt (suc (suc (suc n))) 2 ≡ false = grind (arith, nat_tests) in rw (some_byte (suc (suc n)), test) refl
three_stay n false q r h = rw (some_byte (suc (suc n))) refl

four_stay : (n : ℕ) (p q r : Bool) → is_some (fault_by (suc (suc (suc (suc n)))) p q r) ≡ true
four_stay n p q r = by p q r
  where
    two : nat_lt (suc (suc (suc (suc n)))) 2 ≡ false
    two = grind (arith, nat_tests)

    three : nat_lt (suc (suc (suc (suc n)))) 3 ≡ false
    three = grind (arith, nat_tests)

    four : nat_lt (suc (suc (suc (suc n)))) 4 ≡ false
    four = grind (arith, nat_tests)

    by : (p q r : Bool) → is_some (fault_by (suc (suc (suc (suc n)))) p q r) ≡ true
    by true true true = rw (some_byte (suc (suc (suc n))), two, three, four) refl
    by true true false = rw (some_byte (suc (suc (suc n))), two, three) refl
    by true false r = rw (some_byte (suc (suc (suc n))), two) refl
    by false q r = rw (some_byte (suc (suc (suc n)))) refl

abbrev first_fits : List ℕ → Bool
first_fits x = is_in_range 0xC2 0xF4 (slice_index x 0)

abbrev second_fits : List ℕ → Bool
second_fits x = is_in_range (second_byte_min (slice_index x 0)) (second_byte_max (slice_index x 0)) (slice_index x 1)

pub error_stays : (x y : List ℕ) → 0 < length x → is_some (utf8_error_len x) ≡ true → is_some (utf8_error_len (x ++ y)) ≡ true
unfolding utf8_error_len
error_stays [] y some h = absurd (omega arith)
error_stays (a ∷ []) y some h = one_stays (length y) (is_in_range 0xC2 0xF4 a) (second_fits (a ∷ y)) (is_in_range 0x80 0xBF (slice_index (a ∷ y) 2)) (first a h)
  where
    first : (a : ℕ) → is_some (utf8_error_len (a ∷ [])) ≡ true → is_some (fault_by 1 (is_in_range 0xC2 0xF4 a) (second_fits (a ∷ y)) (is_in_range 0x80 0xBF (slice_index (a ∷ y) 2))) ≡ true
    first a h = h
error_stays (a ∷ b ∷ []) y some h = two_stay (length y) (is_in_range 0xC2 0xF4 a) (is_in_range (second_byte_min a) (second_byte_max a) b) (is_in_range 0x80 0xBF (slice_index (a ∷ b ∷ y) 2)) h
error_stays (a ∷ b ∷ d ∷ []) y some h = three_stay (length y) (is_in_range 0xC2 0xF4 a) (is_in_range (second_byte_min a) (second_byte_max a) b) (is_in_range 0x80 0xBF d) h
error_stays (a ∷ b ∷ d ∷ e ∷ x) y some h = four_stay (length (x ++ y)) (is_in_range 0xC2 0xF4 a) (is_in_range (second_byte_min a) (second_byte_max a) b) (is_in_range 0x80 0xBF d)
