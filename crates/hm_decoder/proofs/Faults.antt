-- Faults that last.
use Rattle.std.proofs.Common.{◌≡◌, ℕ, suc, ◌+◌, ◌<◌, ◌≤◌, Bool, true, false, cond, not, ◌&&◌, ◌==◌, List, [], ◌∷◌, ◌++◌, length, take, drop, Option, Some, None, is_some, refl, sym, ap, subst, ◌∙◌, arith, nat_lt, nat_eq, length-append, add-zero}
use Rattle.std.specs.Str.{IsUtf8, IsValidUpTo}
use Rattle.std.specs.Str.Lossy.{utf8_valid_len, utf8_error_len}
use Rattle.std.proofs.lemmas.Bool.Decides.{nat_tests}
use Rattle.std.proofs.lemmas.List.{length-drop, take-append-drop, length-take-le, take-append-le, drop-append-le, drop_all}
use Rattle.std.proofs.lemmas.Str.{utf8_valid_len-IsUtf8, utf8_valid_len-IsValidUpTo}
use Rattle.hm_base.specs.declared.rules.Rule.TheVariants.{NotUtf8, Nul}
use Rattle.hm_base.specs.Bytes.{all_pass}
use Rattle.hm_base.specs.Places.{is_nonzero}
use Rattle.hm_base.specs.Source.{Refusal, bad_sequence, earlier, refusal_at, text_fault, zero_from}
use Rattle.hm_decoder.specs.Fed.{lasting_bad, lasting_fault}
use Rattle.hm_decoder.specs.Laws.{FaultsLast}
use Rattle.hm_decoder.proofs.Ends.{Ends, whole, bad, unfinished, how_it_ends, at_least, stays_bad, unfinished_nonzero, take_whole, error_stays}

-- ---- the first zero byte

pub zero_front : (s y : List ℕ) (n z : ℕ) → zero_from n s ≡ Some z → zero_from n (s ++ y) ≡ Some z
zero_front [] y n z h = cc
zero_front (c ∷ s) y n z h = by (c == 0) h (zero_front s y (n + 1) z)
  where
    by : (b : Bool) → cond b (Some n) (zero_from (n + 1) s) ≡ Some z → (zero_from (n + 1) s ≡ Some z → zero_from (n + 1) (s ++ y) ≡ Some z) → cond b (Some n) (zero_from (n + 1) (s ++ y)) ≡ Some z
    by true h more = h
    by false h more = more h

pub zero_after : (s y : List ℕ) (n : ℕ) → zero_from n s ≡ None → zero_from n (s ++ y) ≡ zero_from (n + length s) y
zero_after [] y n h = ap (λ m. zero_from m y) (sym (add-zero n))
zero_after (c ∷ s) y n h = by (c == 0) h (zero_after s y (n + 1))
  where
    next : zero_from (n + 1 + length s) y ≡ zero_from (n + suc (length s)) y
    next = ap (λ m. zero_from m y) (omega arith)

    by : (b : Bool) → cond b (Some n) (zero_from (n + 1) s) ≡ None → (zero_from (n + 1) s ≡ None → zero_from (n + 1) (s ++ y) ≡ zero_from (n + 1 + length s) y) → cond b (Some n) (zero_from (n + 1) (s ++ y)) ≡ zero_from (n + suc (length s)) y
    by true h more = cc
    by false h more = more h ∙ next

pub zero_bounds : (s : List ℕ) (n z : ℕ) → zero_from n s ≡ Some z → (n ≤ z) × (z < n + length s)
zero_bounds [] n z h = cc
zero_bounds (c ∷ s) n z h = by (c == 0) h (zero_bounds s (n + 1) z)
  where
    by : (b : Bool) → cond b (Some n) (zero_from (n + 1) s) ≡ Some z → (zero_from (n + 1) s ≡ Some z → (n + 1 ≤ z) × (z < n + 1 + length s)) → (n ≤ z) × (z < n + suc (length s))
    by true h more = let e : n ≡ z = cc in (omega arith, omega arith)
    by false h more = let k = more h in (omega (arith, k.0), omega (arith, k.1))

pub no_zero_there : (s : List ℕ) (n : ℕ) → all_pass is_nonzero s ≡ true → zero_from n s ≡ None
no_zero_there [] n h = refl
no_zero_there (c ∷ s) n h = by (c == 0) h (no_zero_there s (n + 1))
  where
    by : (b : Bool) → not b && all_pass is_nonzero s ≡ true → (all_pass is_nonzero s ≡ true → zero_from (n + 1) s ≡ None) → cond b (Some n) (zero_from (n + 1) s) ≡ None
    by true h more = cc
    by false h more = more h

-- ---- of two faults the earlier

pub nul_first : (bad : Option ℕ) (z : ℕ) → ((v : ℕ) → bad ≡ Some v → z < v) → earlier bad (Some z) ≡ Some (refusal_at Nul z)
nul_first None z h = refl
nul_first (Some v) z h = let low : z < v = h v refl in let test : nat_lt z v ≡ true = grind (arith, nat_tests) in rw test refl

bad_first : (nul : Option ℕ) (v : ℕ) → ((z : ℕ) → nul ≡ Some z → v ≤ z) → earlier (Some v) nul ≡ Some (refusal_at NotUtf8 v)
bad_first None v h = refl
bad_first (Some z) v h = let low : v ≤ z = h z refl in let test : nat_lt z v ≡ false = grind (arith, nat_tests) in rw test refl

-- ---- where bytes stop being UTF-8

pub no_bad : (s : List ℕ) → is_some (utf8_error_len (drop (utf8_valid_len s) s)) ≡ false → lasting_bad s ≡ None
no_bad s h = rw h refl

pub some_bad : (s : List ℕ) → is_some (utf8_error_len (drop (utf8_valid_len s) s)) ≡ true → lasting_bad s ≡ Some (utf8_valid_len s)
some_bad s h = rw h refl

no_error : utf8_error_len [] ≡ None
unfolding utf8_error_len
no_error = refl

pub whole_lasts : (s : List ℕ) → IsUtf8 s → lasting_bad s ≡ None
whole_lasts s u =
    let e : drop (utf8_valid_len s) s ≡ [] = drop_all (utf8_valid_len s) s (let l = utf8_valid_len-IsUtf8 s u in omega arith) in
    no_bad s (ap (λ x. is_some (utf8_error_len x)) e ∙ ap is_some no_error)

pub unfinished_lasts : (s : List ℕ) → utf8_error_len (drop (utf8_valid_len s) s) ≡ None → lasting_bad s ≡ None
unfinished_lasts s h = no_bad s (ap is_some h)

-- a bad sequence is at the end of what is UTF-8
pub bad_place : (s : List ℕ) (v : ℕ) → lasting_bad s ≡ Some v → v ≡ utf8_valid_len s
bad_place s v h = by (is_some (utf8_error_len (drop (utf8_valid_len s) s))) h
  where
    by : (b : Bool) → cond b (Some (utf8_valid_len s)) None ≡ Some v → v ≡ utf8_valid_len s
    by true h = cc
    by false h = cc

sequence_place : (s : List ℕ) (v : ℕ) → bad_sequence s ≡ Some v → v ≡ utf8_valid_len s
sequence_place s v h = by (utf8_valid_len s == length s) h
  where
    by : (b : Bool) → cond b None (Some (utf8_valid_len s)) ≡ Some v → v ≡ utf8_valid_len s
    by true h = cc
    by false h = cc

-- ---- the law

-- a zero byte comes first of all
nul_lasts : (s y : List ℕ) (z m : ℕ) → m ≤ length s → IsUtf8 (take m s) → zero_from 0 s ≡ Some z → z < m → (lasting_fault (s ++ y) ≡ Some (refusal_at Nul z)) × (text_fault (s ++ y) ≡ Some (refusal_at Nul z))
nul_lasts s y z m l u h low =
    let there = zero_front s y 0 z h in
    let far : m ≤ utf8_valid_len (s ++ y) = at_least (s ++ y) m (omega (arith, length-append s y)) (subst IsUtf8 (sym (take-append-le m s y l)) u) in (
      ap (earlier (lasting_bad (s ++ y))) there ∙ nul_first (lasting_bad (s ++ y)) z (λ v e. let p = bad_place (s ++ y) v e in omega arith),
      ap (earlier (bad_sequence (s ++ y))) there ∙ nul_first (bad_sequence (s ++ y)) z (λ v e. let p = sequence_place (s ++ y) v e in omega arith),
    )

-- a bad sequence stays, and with it what comes before it
bad_lasts : (s y : List ℕ) (r : Refusal) → IsValidUpTo s (utf8_valid_len s) → is_some (utf8_error_len (drop (utf8_valid_len s) s)) ≡ true → lasting_fault s ≡ Some r → (lasting_fault (s ++ y) ≡ Some r) × (text_fault (s ++ y) ≡ Some r)
bad_lasts s y r valid err h =
    let v = utf8_valid_len s in
    let short = valid.short in
    let longer = stays_bad s y v valid err in
    let same : utf8_valid_len (s ++ y) ≡ v = utf8_valid_len-IsValidUpTo (s ++ y) v longer in
    let short' = longer.short in
    let rest : drop v (s ++ y) ≡ drop v s ++ y = drop-append-le v s y (omega arith) in
    let error : is_some (utf8_error_len (drop (utf8_valid_len (s ++ y)) (s ++ y))) ≡ true = ap (λ n. is_some (utf8_error_len (drop n (s ++ y)))) same ∙ ap (λ x. is_some (utf8_error_len x)) rest ∙ error_stays (drop v s) y (omega (arith, length-drop v s)) err in
    let one : lasting_bad (s ++ y) ≡ Some v = some_bad (s ++ y) error ∙ ap Some same in
    let two : bad_sequence (s ++ y) ≡ Some v =
    let differs : nat_eq (utf8_valid_len (s ++ y)) (length (s ++ y)) ≡ false = grind (arith, nat_tests) in rw differs (ap Some same) in
    let first : earlier (Some v) (zero_from 0 (s ++ y)) ≡ Some r = by (zero_from 0 s) refl (ap (λ o. earlier o (zero_from 0 s)) (sym (some_bad s err)) ∙ h) in
    (ap (λ o. earlier o (zero_from 0 (s ++ y))) one ∙ first, ap (λ o. earlier o (zero_from 0 (s ++ y))) two ∙ first)
  where
    by : (o : Option ℕ) → zero_from 0 s ≡ o → earlier (Some (utf8_valid_len s)) (zero_from 0 s) ≡ Some r → earlier (Some (utf8_valid_len s)) (zero_from 0 (s ++ y)) ≡ Some r
    by (Some z) e k = ap (earlier (Some (utf8_valid_len s))) (zero_front s y 0 z e ∙ sym e) ∙ k
    by None e k =
        let at_end : zero_from 0 (s ++ y) ≡ zero_from (0 + length s) y = zero_after s y 0 e in
        let before = valid.short in
        ap (earlier (Some (utf8_valid_len s))) at_end ∙ bad_first (zero_from (0 + length s) y) (utf8_valid_len s) (λ z f. let b = zero_bounds y (0 + length s) z f in omega (arith, b.0)) ∙ sym (ap (earlier (Some (utf8_valid_len s))) e) ∙ k

nul_is : (o : Option ℕ) (r : Refusal) → earlier None o ≡ Some r → (z : ℕ) × (o ≡ Some z) × (r ≡ refusal_at Nul z)
nul_is None r h = cc
nul_is (Some z) r h = (z, refl, cc)

-- before an unfinished character
zero_in_front : (s : List ℕ) (v z : ℕ) → v ≤ length s → all_pass is_nonzero (drop v s) ≡ true → zero_from 0 s ≡ Some z → z < v
zero_in_front s v z l none h = by (zero_from 0 (take v s)) refl
  where
    whole_is : take v s ++ drop v s ≡ s
    whole_is = take-append-drop v s

    by : (o : Option ℕ) → zero_from 0 (take v s) ≡ o → z < v
    by None e =
        let gone : zero_from 0 s ≡ None = ap (zero_from 0) (sym whole_is) ∙ zero_after (take v s) (drop v s) 0 e ∙ no_zero_there (drop v s) (0 + length (take v s)) none in
        absurd (cc)
    by (Some x) e =
        let here : zero_from 0 s ≡ Some x = ap (zero_from 0) (sym whole_is) ∙ zero_front (take v s) (drop v s) 0 x e in
        let same : x ≡ z = cc in
        let b = zero_bounds (take v s) 0 x e in
        omega (arith, b.1, length-take-le v s l)

pub faults_last : FaultsLast
faults_last s y r h = by (how_it_ends s)
  where
    by : Ends s → (lasting_fault (s ++ y) ≡ Some r) × (text_fault (s ++ y) ≡ Some r)
    by (whole u) =
        let k = nul_is (zero_from 0 s) r (ap (λ o. earlier o (zero_from 0 s)) (sym (whole_lasts s u)) ∙ h) in
        let b = zero_bounds s 0 k.0 k.1 in
        rw k.2 (nul_lasts s y k.0 (length s) (omega arith) (subst IsUtf8 (sym (take_whole s)) u) k.1 (omega (arith, b.1)))
    by (bad v e) = bad_lasts s y r v e h
    by (unfinished v e) =
        let k = nul_is (zero_from 0 s) r (ap (λ o. earlier o (zero_from 0 s)) (sym (unfinished_lasts s e)) ∙ h) in
        let short = v.short in
        rw k.2 (nul_lasts s y k.0 (utf8_valid_len s) (omega arith) v.front k.1 (zero_in_front s (utf8_valid_len s) k.0 (omega arith) (unfinished_nonzero (drop (utf8_valid_len s) s) e) k.1))
