-- The decided text of a page that goes on.
use Rattle.std.proofs.Common.{◌≡◌, ℕ, suc, pred, ◌+◌, ◌<◌, ◌≤◌, ◌⊎◌, inl, inr, Bool, true, false, cond, ◌==◌, nat_lt, List, [], ◌∷◌, ◌++◌, length, get_or, take, drop, Option, Some, None, refl, sym, ap, ap₂, subst, ◌∙◌, arith, length-append, append_assoc, append-nil, nat_eq, ⊎_elim}
use Rattle.std.specs.Int.{is_in_range}
use Rattle.std.specs.Str.{IsUtf8, IsCharBoundary}
use Rattle.std.specs.Str.Lossy.{utf8_valid_len, utf8_error_len}
use Rattle.std.proofs.lemmas.Bool.{eqb-true, eq-eqb}
use Rattle.std.proofs.lemmas.Bool.Decides.{nat_tests}
use Rattle.std.proofs.lemmas.List.{length-drop, take-append-drop, length-take-le, take_at}
use Rattle.std.proofs.lemmas.Str.{IsUtf8-take, utf8_valid_len-IsUtf8}
use Rattle.hm_base.specs.declared.rules.Rule.TheVariants.{NotUtf8, Nul}
use Rattle.hm_base.specs.Source.{Source, Refusal, bad_sequence, earlier, refusal_at, text_fault, zero_from, source_of}
use Rattle.hm_decoder.specs.Fed.{lasting_bad, lasting_fault, ends_with_return, decided_len, decided, IsTextFront}
use Rattle.hm_decoder.specs.Laws.{DecidedTextsLast, WholeTextsFollow}
use Rattle.hm_decoder.proofs.Ends.{Ends, whole, bad, unfinished, how_it_ends, at_least}
use Rattle.hm_decoder.proofs.Faults.{whole_lasts, faults_last}
use Rattle.hm_decoder.proofs.Lines.{is_feed, CutsFine, lines, source_more}

-- ---- what is left undecided

-- what stands after a decided text: nothing, a CR, or the front of a character
pub data Left (p : List ℕ) : List ℕ → Type 0 where
  nothing : ends_with_return p ≡ false → Left p []
  return : Left p (13 ∷ [])
  front : (c : ℕ) (x : List ℕ) → is_feed c ≡ false → Left p (c ∷ x)

pub record Cut (s : List ℕ) : Type 0 where
  pub text : List ℕ
  pub rest : List ℕ
  pub is : s ≡ text ++ rest
  pub len : decided_len s ≡ length text
  pub utf8 : IsUtf8 text
  pub left : Left text rest
  pub far : (utf8_valid_len s ≤ length text) ⊎ (length rest ≤ 1)

no_some : {A : Type 0} (x : A) → Some x ≡ None → ⊥
no_some x e = cc

pub no_bad_there : (o n : Option ℕ) → earlier o n ≡ None → (o ≡ None) × (n ≡ None)
no_bad_there None None h = (refl, refl)
no_bad_there None (Some z) h = cc
no_bad_there (Some v) None h = cc
no_bad_there (Some v) (Some z) h = by (nat_lt z v) h
  where
    by : (b : Bool) → cond b (Some (refusal_at Nul z)) (Some (refusal_at NotUtf8 v)) ≡ None → (Some v ≡ None) × (Some z ≡ None)
    by true h = cc
    by false h = cc

-- a CR at the end
pub last_return : (s : List ℕ) → ends_with_return s ≡ true → (p : List ℕ) × (s ≡ p ++ 13 ∷ [])
last_return [] h = cc
last_return (c ∷ []) h = let e : c ≡ 13 = eqb-true c 13 h in ([], rw e refl)
last_return (c ∷ d ∷ s) h = let k = last_return (d ∷ s) h in (c ∷ k.0, ap (λ l. c ∷ l) k.1)

pub before_return : (p : List ℕ) → IsUtf8 (p ++ 13 ∷ []) → IsUtf8 p
before_return p u =
    let at : IsCharBoundary (p ++ 13 ∷ []) (length p) = (omega (arith, length-append p (13 ∷ [])), λ l h. absurd (low p h)) in
    subst IsUtf8 (take_at p (13 ∷ []) (length p) refl) (IsUtf8-take (p ++ 13 ∷ []) (length p) u at)
  where
    low : (p : List ℕ) → 128 ≤ get_or (p ++ 13 ∷ []) (length p) 0 → ⊥
    low [] h = omega arith
    low (c ∷ p) h = low p h

in_range : (lo hi c : ℕ) → is_in_range lo hi c ≡ true → lo ≤ c
in_range lo hi c h = grind (arith, nat_tests)

no_feed : (c : ℕ) → 128 ≤ c → is_feed c ≡ false
no_feed c h = grind (arith, nat_tests)

-- the front of a character begins with no ASCII byte
pub front_byte : (x : List ℕ) → 0 < length x → utf8_error_len x ≡ None → (c : ℕ) × (y : List ℕ) × (x ≡ c ∷ y) × (128 ≤ c)
unfolding utf8_error_len
front_byte [] h e = absurd (omega arith)
front_byte (c ∷ x) h e = (c, x, refl, by (is_in_range 0xC2 0xF4 c) refl (some (length x)) e)
  where
    some : (n : ℕ) → (suc n == 0) ≡ false
    some n = grind (arith, nat_tests)

    by : (b : Bool) → is_in_range 0xC2 0xF4 c ≡ b → (suc (length x) == 0) ≡ false → utf8_error_len (c ∷ x) ≡ None → 128 ≤ c
    by true f k e = let l = in_range 0xC2 0xF4 c f in omega arith
    by false f k e = absurd (no_some 1 (rw (k, f) at e))

-- ---- how a page is cut

pub len_whole : (s : List ℕ) → IsUtf8 s → ends_with_return s ≡ false → decided_len s ≡ length s
unfolding decided_len
len_whole s u h = let e = utf8_valid_len-IsUtf8 s u in rw (e, eq-eqb (length s) (length s) refl, h) refl

pub len_return : (s : List ℕ) → IsUtf8 s → ends_with_return s ≡ true → decided_len s ≡ pred (length s)
unfolding decided_len
len_return s u h = let e = utf8_valid_len-IsUtf8 s u in rw (e, eq-eqb (length s) (length s) refl, h) refl

pub len_unfinished : (s : List ℕ) → utf8_valid_len s < length s → decided_len s ≡ utf8_valid_len s
unfolding decided_len
len_unfinished s h = let differs : nat_eq (utf8_valid_len s) (length s) ≡ false = grind (arith, nat_tests) in rw differs refl

pub cut_whole : (s : List ℕ) → IsUtf8 s → Cut s
cut_whole s u = by (ends_with_return s) refl
  where
    by : (b : Bool) → ends_with_return s ≡ b → Cut s
    by false h = record { text = s; rest = []; is = sym (append-nil s); len = len_whole s u h; utf8 = u; left = nothing h; far = inr (omega arith) }
    by true h =
        let k = last_return s h in
        let size : length s ≡ length k.0 + 1 = ap length k.1 ∙ length-append k.0 (13 ∷ []) in
        let minus : pred (length s) ≡ length k.0 = ap pred size ∙ less (length k.0) in
        record { text = k.0; rest = 13 ∷ []; is = k.1; len = len_return s u h ∙ minus; utf8 = before_return k.0 (subst IsUtf8 k.1 u); left = return; far = inr (omega arith) }
      where
        less : (n : ℕ) → pred (n + 1) ≡ n
        less n = let e : n + 1 ≡ suc n = omega arith in ap pred e

pub cut : (s : List ℕ) → lasting_fault s ≡ None → Cut s
cut s none = by (how_it_ends s)
  where
    by : Ends s → Cut s
    by (whole u) = cut_whole s u
    by (bad v e) = absurd (no_some (utf8_valid_len s) (sym (ap (λ b. cond b (Some (utf8_valid_len s)) None) e) ∙ (no_bad_there (lasting_bad s) (zero_from 0 s) none).0))
    by (unfinished v e) =
        let short = v.short in
        let k = front_byte (drop (utf8_valid_len s) s) (omega (arith, length-drop (utf8_valid_len s) s)) e in
        record {
          text = take (utf8_valid_len s) s;
          rest = drop (utf8_valid_len s) s;
          is = sym (take-append-drop (utf8_valid_len s) s);
          len = len_unfinished s v.short ∙ sym (length-take-le (utf8_valid_len s) s (omega arith));
          utf8 = v.front;
          left = subst (Left (take (utf8_valid_len s) s)) (sym k.2) (front k.0 k.1 (no_feed k.0 k.3));
          far = inl (let l = length-take-le (utf8_valid_len s) s (omega arith) in omega arith);
        }

pub text_is : (s : List ℕ) (k : Cut s) → take (decided_len s) s ≡ k.text
text_is s k = ap (λ n. take n s) k.len ∙ ap (take (length k.text)) k.is ∙ take_at k.text k.rest (length k.text) refl

-- what comes next begins no line end that is half there
pub cuts_fine : (p rest y q z : List ℕ) → Left p rest → rest ++ y ≡ q ++ z → CutsFine p q
cuts_fine p rest y q z (nothing h) e = λ k. absurd (no k h)
  where
    no : {b : Bool} → b ≡ true → b ≡ false → ⊥
    no k h = cc
cuts_fine p rest y [] z return e = λ k. refl
cuts_fine p rest y (d ∷ q) z return e = λ k. let same : 13 ≡ d = cc in ap is_feed (sym same)
cuts_fine p rest y [] z (front c x h) e = λ k. refl
cuts_fine p rest y (d ∷ q) z (front c x h) e = λ k. let same : c ≡ d = cc in ap is_feed (sym same) ∙ h

-- the text of a front of a page is a front of the text
pub front_of : (p q : List ℕ) → IsUtf8 p → CutsFine p q → IsTextFront (source_of p) (source_of (p ++ q))
front_of [] q u fine = record { more = (source_of q).placed; placed = refl }
front_of (c ∷ p) q u fine = record { more = lines (length (c ∷ p)) q; placed = ap (λ (v : Source). v.placed) (source_more (c ∷ p) q u (omega arith) fine) }

-- ---- the laws

-- no fault comes before
pub earlier_none : (s y : List ℕ) → lasting_fault (s ++ y) ≡ None → lasting_fault s ≡ None
earlier_none s y none = by (lasting_fault s) refl
  where
    by : (o : Option Refusal) → lasting_fault s ≡ o → o ≡ None
    by None e = refl
    by (Some r) e = absurd (no_some r (sym (faults_last s y r e).0 ∙ none))

longer_text : (s y : List ℕ) → 0 < length y → (k : Cut s) (m : Cut (s ++ y)) → length k.text ≤ length m.text
longer_text s y some k m =
    let size : length s ≡ length k.text + length k.rest = ap length k.is ∙ length-append k.text k.rest in
    let all : length (s ++ y) ≡ length s + length y = length-append s y in
    let parts : length (s ++ y) ≡ length m.text + length m.rest = ap length m.is ∙ length-append m.text m.rest in
    let there : take (length k.text) (s ++ y) ≡ k.text = ap (λ l. take (length k.text) (l ++ y)) k.is ∙ ap (take (length k.text)) (append_assoc k.text k.rest y) ∙ take_at k.text (k.rest ++ y) (length k.text) refl in
    let far : length k.text ≤ utf8_valid_len (s ++ y) = at_least (s ++ y) (length k.text) (omega arith) (subst IsUtf8 (sym there) k.utf8) in
    ⊎_elim (λ (h : utf8_valid_len (s ++ y) ≤ length m.text). omega arith) (λ (h : length m.rest ≤ 1). omega arith) m.far

-- of two cuts of a page the longer begins with the shorter
parted : (p r q z : List ℕ) → p ++ r ≡ q ++ z → length p ≤ length q → (x : List ℕ) × (q ≡ p ++ x) × (r ≡ x ++ z)
parted [] r q z e h = (q, refl, e)
parted (c ∷ p) r [] z e h = absurd (omega arith)
parted (c ∷ p) r (d ∷ q) z e h =
    let same : c ≡ d = cc in
    let more : p ++ r ≡ q ++ z = cc in
    let k = parted p r q z more (omega arith) in
    (k.0, ap₂ (λ a l. a ∷ l) (sym same) k.1, k.2)

pub decided_texts_last : DecidedTextsLast
decided_texts_last s [] none = let e : s ++ [] ≡ s = append-nil s in record { more = []; placed = ap (λ l. (decided l).placed) e ∙ sym (append-nil (decided s).placed) }
decided_texts_last s (c ∷ y) none = by (cut s (earlier_none s (c ∷ y) none)) (cut (s ++ c ∷ y) none)
  where
    by : Cut s → Cut (s ++ c ∷ y) → IsTextFront (decided s) (decided (s ++ c ∷ y))
    by k m =
        let both : k.text ++ (k.rest ++ c ∷ y) ≡ m.text ++ m.rest = sym (append_assoc k.text k.rest (c ∷ y)) ∙ ap (λ l. l ++ c ∷ y) (sym k.is) ∙ m.is in
        let x = parted k.text (k.rest ++ c ∷ y) m.text m.rest both (longer_text s (c ∷ y) (omega arith) k m) in
        let fine = cuts_fine k.text k.rest (c ∷ y) x.0 m.rest k.left x.2 in
        rw (text_is s k, text_is (s ++ c ∷ y) m, x.1) (front_of k.text x.0 k.utf8 fine)

pub whole_page : (s : List ℕ) → text_fault s ≡ None → IsUtf8 s
whole_page s none = by (how_it_ends s) (utf8_valid_len s == length s) refl (no_bad_there (bad_sequence s) (zero_from 0 s) none).0
  where
    by : Ends s → (b : Bool) → (utf8_valid_len s == length s) ≡ b → cond b None (Some (utf8_valid_len s)) ≡ None → IsUtf8 s
    by (whole u) b e h = u
    by (bad v f) true e h = let same : utf8_valid_len s ≡ length s = eqb-true _ _ e in let short = v.short in absurd (omega arith)
    by (unfinished v f) true e h = let same : utf8_valid_len s ≡ length s = eqb-true _ _ e in let short = v.short in absurd (omega arith)
    by (bad v f) false e h = absurd (no_some (utf8_valid_len s) h)
    by (unfinished v f) false e h = absurd (no_some (utf8_valid_len s) h)

pub whole_texts_follow : WholeTextsFollow
whole_texts_follow s none =
    let u = whole_page s none in
    let k = cut_whole s u in
    let fine = cuts_fine k.text k.rest [] k.rest [] k.left refl in
    let front : IsTextFront (source_of k.text) (source_of (k.text ++ k.rest)) = front_of k.text k.rest k.utf8 fine in (
      ap (λ o. earlier o (zero_from 0 s)) (whole_lasts s u) ∙ ap (earlier None) (no_bad_there (bad_sequence s) (zero_from 0 s) none).1,
      subst (λ l. IsTextFront (decided s) (source_of l)) (sym k.is) (rw (text_is s k) front),
    )
