-- The part of a line that is shown.
use Rattle.std.proofs.Common.{◌≡◌, ℕ, zero, suc, ◌+◌, ◌-◌, ◌<◌, ◌≤◌, Bool, true, false, cond, not, nat_le, List, [], ◌∷◌, ◌++◌, length, get_or, take, drop, refl, sym, ap, ap₂, ◌∙◌, subst, arith, append-nil, append_assoc, take-add, take-append-drop}
use Rattle.std.proofs.lemmas.List.{at_drop_all, at_drop_more, drop-drop, drop-take, drop_more, length-append, length-drop, take-take, take_all, take_more}
use Rattle.std.proofs.Math.Seq.{take-append_seam}
use Rattle.std.specs.Fmt.{is_char_start}
use Rattle.hm_base.specs.Bytes.{head_is}
use Rattle.hm_location.specs.declared.shown.TheConstants.{BEFORE, AFTER_PLACE}
use Rattle.hm_location.specs.Lines.{line_front}
use Rattle.hm_location.specs.Shown.{is_break, line_rest, from_char, shown_before, shown_after, shown_place, front_shown, rest_shown, line_at, IsPart}

-- ---- up to the end of the line

pub rest_on : (s : List ℕ) (i : ℕ) → i < length s → is_break (get_or s i 0) ≡ false → take i s ++ line_rest (drop i s) ≡ line_rest s → take (i + 1) s ++ line_rest (drop (i + 1) s) ≡ line_rest s
rest_on s i l e h =
    let d : line_rest (drop i s) ≡ get_or s i 0 ∷ line_rest (drop (i + 1) s) = at_drop_more line_rest s i 0 l ∙ rw e refl in
    ap (λ q. q ++ line_rest (drop (i + 1) s)) (take_more s i 0 l) ∙ append_assoc (take i s) (get_or s i 0 ∷ []) (line_rest (drop (i + 1) s)) ∙ ap (λ q. take i s ++ q) (sym d) ∙ h

pub rest_ends : (s : List ℕ) (i : ℕ) → i < length s → is_break (get_or s i 0) ≡ true → take i s ++ line_rest (drop i s) ≡ line_rest s → take i s ≡ line_rest s
rest_ends s i l e h =
    let d : line_rest (drop i s) ≡ [] = at_drop_more line_rest s i 0 l ∙ rw e refl in
    sym (append-nil (take i s)) ∙ ap (λ q. take i s ++ q) (sym d) ∙ h

pub rest_is_all : (s : List ℕ) (i : ℕ) → length s ≤ i → take i s ++ line_rest (drop i s) ≡ line_rest s → take i s ≡ line_rest s
rest_is_all s i l h =
    let d : line_rest (drop i s) ≡ [] = at_drop_all line_rest s i l in
    sym (append-nil (take i s)) ∙ ap (λ q. take i s ++ q) (sym d) ∙ h

-- ---- before the place

pub skip_on : (s : List ℕ) (i : ℕ) → i < length s → is_char_start (get_or s i 0) ≡ false → from_char (drop i s) ≡ from_char (drop (i + 1) s)
skip_on s i l e = at_drop_more from_char s i 0 l ∙ rw e refl

pub skip_ends : (s : List ℕ) (i : ℕ) → i < length s → is_char_start (get_or s i 0) ≡ true → from_char (drop i s) ≡ drop i s
skip_ends s i l e = at_drop_more from_char s i 0 l ∙ rw e (sym (drop_more s i 0 l))

pub skip_all : (s : List ℕ) (i : ℕ) → length s ≤ i → from_char (drop i s) ≡ drop i s
skip_all s i l = at_drop_all from_char s i l ∙ sym (at_drop_all (λ q. q) s i l)

from_char_short : (s : List ℕ) → length (from_char s) ≤ length s
from_char_short [] = omega arith
from_char_short (c ∷ s) = by_test (is_char_start c) (from_char_short s)
  where
    by_test : (b : Bool) → length (from_char s) ≤ length s → length (cond b (c ∷ s) (from_char s)) ≤ suc (length s)
    by_test true h = omega arith
    by_test false h = omega (arith, h)

pub before_short : (n : ℕ) (q : List ℕ) → length (shown_before n q) ≤ n
before_short n q = by_test (nat_le (length q) n) refl
  where
    le_of : (a b : ℕ) → nat_le a b ≡ true → a ≤ b
    le_of a b h = grind arith

    gt_of : (a b : ℕ) → nat_le a b ≡ false → b ≤ a
    gt_of a b h = grind arith

    by_test : (b : Bool) → nat_le (length q) n ≡ b → length (cond b q (from_char (drop (length q - n) q))) ≤ n
    by_test true e = le_of (length q) n e
    by_test false e = omega (arith, from_char_short (drop (length q - n) q), length-drop (length q - n) q, gt_of (length q) n e)

pub before_all : (n : ℕ) (q : List ℕ) → length q ≤ n → q ≡ shown_before n q
before_all n q l = rw (le (length q) n l) refl
  where
    le : (a b : ℕ) → a ≤ b → nat_le a b ≡ true
    le a b h = grind arith

pub before_cut : (n : ℕ) (q : List ℕ) → n < length q → from_char (drop (length q - n) q) ≡ shown_before n q
before_cut n q l = rw (gt (length q) n l) refl
  where
    gt : (a b : ℕ) → b < a → nat_le a b ≡ false
    gt a b h = grind arith

-- ---- after the place

abbrev goes_on : ℕ → List ℕ → Bool
goes_on i s = head_is (λ c. not (is_char_start c)) (drop i s)

pub back_on : (s : List ℕ) (i : ℕ) → 0 < i → i < length s → is_char_start (get_or s i 0) ≡ false → shown_after i s ≡ shown_after (i - 1) s
unfolding shown_after
back_on s zero p l e = absurd (omega arith)
back_on s (suc i) p l e =
    let h : goes_on (suc i) s ≡ true = at_drop_more (λ q. head_is (λ c. not (is_char_start c)) q) s (suc i) 0 l ∙ rw e refl in
    let j : suc i - 1 ≡ i = omega arith in
    rw (h, j) refl

pub back_ends : (s : List ℕ) (i : ℕ) → i < length s → is_char_start (get_or s i 0) ≡ true → take i s ≡ shown_after i s
unfolding shown_after
back_ends s zero l e = refl
back_ends s (suc i) l e =
    let h : goes_on (suc i) s ≡ false = at_drop_more (λ q. head_is (λ c. not (is_char_start c)) q) s (suc i) 0 l ∙ rw e refl in
    rw h refl

pub back_all : (s : List ℕ) (i : ℕ) → length s ≤ i → s ≡ shown_after i s
unfolding shown_after
back_all [] zero l = refl
back_all (c ∷ s) zero l = absurd (omega arith)
back_all s (suc i) l =
    let h : goes_on (suc i) s ≡ false = at_drop_all (λ q. head_is (λ c. not (is_char_start c)) q) s (suc i) l in
    rw h (sym (take_all (suc i) s l))

pub after_short : (n : ℕ) (s : List ℕ) → length (shown_after n s) ≤ n
unfolding shown_after
after_short zero s = omega arith
after_short (suc n) s = by_test (goes_on (suc n) s) (after_short n s)
  where
    short : (k : ℕ) (q : List ℕ) → length (take k q) ≤ k
    short zero q = omega arith
    short (suc k) [] = omega arith
    short (suc k) (c ∷ q) = let h = short k q in omega (arith, h)

    by_test : (b : Bool) → length (shown_after n s) ≤ n → length (cond b (shown_after n s) (take (suc n) s)) ≤ suc n
    by_test true h = omega (arith, h)
    by_test false h = short (suc n) s

-- ---- both

pub both_parts : (s : List ℕ) (begin place cut kept len : ℕ) → begin ≤ place → cut ≤ place - begin → kept ≤ len
    → take (place + kept - (begin + cut)) (drop (begin + cut) s) ≡ drop cut (take (place - begin) (drop begin s)) ++ take kept (take len (drop place s))
both_parts s begin place cut kept len l m n =
    let k : place + kept - (begin + cut) ≡ (place - begin - cut) + kept = omega (arith, l, m) in
    let j : (begin + cut) + (place - begin - cut) ≡ place = omega (arith, l, m) in
    let i : cut + (place - begin - cut) ≡ place - begin = omega (arith, m) in
    let front : drop cut (take (place - begin) (drop begin s)) ≡ take (place - begin - cut) (drop (begin + cut) s) =
    ap (λ a. drop cut (take a (drop begin s))) (sym i) ∙ drop-take cut (place - begin - cut) (drop begin s) ∙ ap (take (place - begin - cut)) (drop-drop cut begin s ∙ refl) in
    let after : take kept (drop (place - begin - cut) (drop (begin + cut) s)) ≡ take kept (take len (drop place s)) =
    ap (take kept) (drop-drop (place - begin - cut) (begin + cut) s ∙ ap (λ a. drop a s) j) ∙ sym (take-take kept len (drop place s) n) in
    ap (λ a. take a (drop (begin + cut) s)) k ∙ take-add (place - begin - cut) kept (drop (begin + cut) s) ∙ ap (λ q. take (place - begin - cut) (drop (begin + cut) s) ++ q) after ∙ ap (λ q. q ++ take kept (take len (drop place s))) (sym front)

pub is_part : (bytes front rest : List ℕ) (cut kept : ℕ) → bytes ≡ drop cut front ++ take kept rest → IsPart bytes (front ++ rest)
is_part bytes front rest cut kept e = record {
  before = take cut front;
  after = drop kept rest;
  whole =
      ap (λ q. take cut front ++ q ++ drop kept rest) e
      ∙ ap (λ q. q ++ drop kept rest) (sym (append_assoc (take cut front) (drop cut front) (take kept rest)))
      ∙ append_assoc (take cut front ++ drop cut front) (take kept rest) (drop kept rest)
      ∙ ap (λ q. q ++ (take kept rest ++ drop kept rest)) (take-append-drop cut front)
      ∙ ap (λ q. front ++ q) (take-append-drop kept rest);
}

pub back_zero : (s : List ℕ) (i k : ℕ) → i ≡ 0 → k ≡ 0 → take k s ≡ shown_after i s
unfolding shown_after
back_zero s i k e f = rw (e, f) refl

-- ---- what is shown of a place

take_short : (n : ℕ) (q : List ℕ) → length (take n q) ≤ n
take_short zero q = omega arith
take_short (suc n) [] = omega arith
take_short (suc n) (c ∷ q) = let h = take_short n q in omega (arith, h)

pub record IsShown (s : List ℕ) (at : ℕ) (bytes : List ℕ) : Type 0 where
  pub is : bytes ≡ front_shown s at ++ rest_shown s at
  pub short : length bytes ≤ 100
  pub part : IsPart bytes (line_at s (shown_place s at))

pub all_shown : (s : List ℕ) (at p begin cut kept len m : ℕ) → p ≡ shown_place s at → begin ≤ p → take (p - begin) (drop begin s) ≡ line_front s p → take len (drop p s) ≡ line_rest (drop p s) → m ≡ len
    → cut ≤ length (take (p - begin) (drop begin s)) → drop cut (take (p - begin) (drop begin s)) ≡ shown_before BEFORE (take (p - begin) (drop begin s))
    → kept ≤ length (take m (drop p s)) → take kept (take m (drop p s)) ≡ shown_after AFTER_PLACE (take m (drop p s))
    → IsShown s at (take (p + kept - (begin + cut)) (drop (begin + cut) s))
unfolding front_shown rest_shown
all_shown s at p begin cut kept len m e l f r n c d k h =
    let rest : take m (drop p s) ≡ line_rest (drop p s) = ap (λ a. take a (drop p s)) n ∙ r in
    let parts = both_parts s begin p cut kept m l (omega (arith, c, take_short (p - begin) (drop begin s))) (omega (arith, k, take_short m (drop p s))) in
    let before : drop cut (take (p - begin) (drop begin s)) ≡ shown_before BEFORE (line_front s p) = d ∙ ap (shown_before BEFORE) f in
    let after : take kept (take m (drop p s)) ≡ shown_after AFTER_PLACE (line_rest (drop p s)) = h ∙ ap (shown_after AFTER_PLACE) rest in
    let is : take (p + kept - (begin + cut)) (drop (begin + cut) s) ≡ shown_before BEFORE (line_front s p) ++ shown_after AFTER_PLACE (line_rest (drop p s)) = parts ∙ ap (λ q. q ++ take kept (take m (drop p s))) before ∙ ap (λ q. shown_before BEFORE (line_front s p) ++ q) after in
    let bytes = take (p + kept - (begin + cut)) (drop (begin + cut) s) in
    let whole : take (p - begin) (drop begin s) ++ take m (drop p s) ≡ line_front s p ++ line_rest (drop p s) = ap (λ q. q ++ take m (drop p s)) f ∙ ap (λ q. line_front s p ++ q) rest in
    let part : IsPart bytes (line_front s p ++ line_rest (drop p s)) = subst (λ q. IsPart bytes q) whole (is_part bytes (take (p - begin) (drop begin s)) (take m (drop p s)) cut kept parts) in
    record {
      is = subst (λ a. take (p + kept - (begin + cut)) (drop (begin + cut) s) ≡ shown_before BEFORE (line_front s a) ++ shown_after AFTER_PLACE (line_rest (drop a s))) e is;
      short = omega (arith, ap length is, length-append (shown_before BEFORE (line_front s p)) (shown_after AFTER_PLACE (line_rest (drop p s))), before_short BEFORE (line_front s p), after_short AFTER_PLACE (line_rest (drop p s)));
      part = subst (λ a. IsPart (take (p + kept - (begin + cut)) (drop (begin + cut) s)) (line_at s a)) e part;
    }

-- the bytes before the place are the first of all that are shown
first_of : (a b q : List ℕ) (n : ℕ) → q ≡ a ++ b → n ≡ length a → take n q ≡ a
first_of a b q n e f = ap₂ take f e ∙ take-append_seam a b

pub front_of : (s : List ℕ) (at p begin cut front : ℕ) (bytes : List ℕ) → p ≡ shown_place s at → take (p - begin) (drop begin s) ≡ line_front s p → drop cut (take (p - begin) (drop begin s)) ≡ shown_before BEFORE (take (p - begin) (drop begin s))
    → bytes ≡ front_shown s at ++ rest_shown s at → front ≡ length (take (p - begin) (drop begin s)) - cut → (take front bytes ≡ front_shown s at) × (front ≤ length bytes)
unfolding front_shown
front_of s at p begin cut front bytes e f d is h =
    let q = take (p - begin) (drop begin s) in
    let shown : drop cut q ≡ front_shown s at = d ∙ ap (shown_before BEFORE) f ∙ ap (λ a. shown_before BEFORE (line_front s a)) e in
    let n : front ≡ length (front_shown s at) = omega (arith, h, length-drop cut q, ap length shown) in
    (first_of (front_shown s at) (rest_shown s at) bytes front is n, omega (arith, n, ap length is, length-append (front_shown s at) (rest_shown s at)))

pub rest_of_all : (s : List ℕ) (p len : ℕ) → take len (take (length s - p) (drop p s)) ≡ line_rest (take (length s - p) (drop p s)) → take len (drop p s) ≡ line_rest (drop p s)
rest_of_all s p len h = subst (λ q. take len q ≡ line_rest q) (take_all (length s - p) (drop p s) (omega (arith, length-drop p s))) h
