-- Bytes in reverse order, eight at each end at a time.
use Rattle.std.proofs.Common.{◌≡◌, ◌∙◌, ℕ, ◌+◌, ◌-◌, ◌≤◌, List, [], ◌++◌, length, take, drop, reverse, refl, sym, ap, subst, arith, append_assoc, append-nil, take_all}
use Rattle.std.proofs.Math.Seq.{take-append-add}
use Rattle.std.proofs.Math.ListN.{drop_of_length-le}
use Rattle.std.proofs.lemmas.List.{take-append-drop, drop-drop, take_at, drop_at, length-append, length-drop, length-take-le, length-reverse, reverse-append}
use Rattle.std.proofs.lemmas.Slice.{take-put_mid, drop-put_mid}
use borrow.Rule.Slice.PartMut.{put_mid}

-- what a write to a part leaves
put_is : (a k : ℕ) (xs ys : List ℕ) → a ≤ length xs → length ys ≡ k → put_mid a k xs ys ≡ (take a xs ++ ys) ++ drop (a + k) xs
put_is a k xs ys inside same =
    let end : a + k ≡ a + length ys = omega (arith, same) in
    sym (take-append-drop (a + k) (put_mid a k xs ys)) ∙ (λ i. take-put_mid a k xs ys (a + k) end inside i ++ drop-put_mid a k xs ys (a + k) (omega arith) inside same i)

-- the ends swapped
pub ends_turned : (xs front after : List ℕ) → 16 ≤ length xs → front ≡ reverse (take 8 (drop 0 xs)) → after ≡ reverse (take 8 (drop (length xs - 8) xs))
    → put_mid (length xs - 8) (length (after ++ drop 8 xs) - (length xs - 8)) (after ++ drop 8 xs) front ≡ reverse (drop (length xs - 8) xs) ++ take (length xs - 16) (drop 8 xs) ++ reverse (take 8 xs)
ends_turned xs front after long f b =
    let n : ℕ = length xs in
    let now : List ℕ = after ++ drop 8 xs in
    let front_len : length front ≡ 8 = ap length f ∙ length-reverse (take 8 xs) ∙ length-take-le 8 xs (omega (arith, long)) in
    let last_len : length (drop (n - 8) xs) ≡ 8 = omega (arith, length-drop (n - 8) xs, long) in
    let rest_after_is : after ≡ reverse (drop (n - 8) xs) = b ∙ ap reverse (take_all 8 (drop (n - 8) xs) (omega (arith, last_len))) in
    let after_len : length after ≡ 8 = ap length rest_after_is ∙ length-reverse (drop (n - 8) xs) ∙ last_len in
    let now_len : length now ≡ n = omega (arith, length-append after (drop 8 xs), length-drop 8 xs, after_len, long) in
    let at : n - 8 ≡ length after + (n - 16) = omega (arith, after_len, long) in
    let kept : take (n - 8) now ≡ after ++ take (n - 16) (drop 8 xs) = ap (λ k. take k now) at ∙ take-append-add after (drop 8 xs) (n - 16) in
    let none : drop (n - 8 + (length now - (n - 8))) now ≡ [] = drop_of_length-le now {i = n - 8 + (length now - (n - 8))} (omega (arith, now_len, long)) in
    put_is (n - 8) (length now - (n - 8)) now front (omega (arith, now_len)) (omega (arith, front_len, now_len, long))
    ∙ (λ i. (kept i ++ front) ++ none i) ∙ append-nil ((after ++ take (n - 16) (drop 8 xs)) ++ front)
    ∙ (λ i. (rest_after_is i ++ take (n - 16) (drop 8 xs)) ++ f i)

-- `done` bytes at each end are reversed already, and those between them are left
pub record IsTurning (first now : List ℕ) (done : ℕ) : Type 0 where
  pub len : length now ≡ length first
  pub half : done + done ≤ length first
  pub all : (take done now ++ reverse (take (length first - done - done) (drop done now))) ++ drop (length first - done) now ≡ reverse first

-- the bytes between the ends, their own ends apart
middle_cut : (m : List ℕ) → 16 ≤ length m → reverse m ≡ (reverse (drop (length m - 8) m) ++ reverse (take (length m - 16) (drop 8 m))) ++ reverse (take 8 m)
middle_cut m long =
    let inner : List ℕ = take (length m - 16) (drop 8 m) in
    let last : drop (length m - 16) (drop 8 m) ≡ drop (length m - 8) m = let at : 8 + (length m - 16) ≡ length m - 8 = omega (arith, long) in drop-drop (length m - 16) 8 m ∙ ap (λ k. drop k m) at in
    ap reverse (sym (take-append-drop 8 m)) ∙ reverse-append (take 8 m) (drop 8 m)
    ∙ ap (λ x. x ++ reverse (take 8 m)) (ap reverse (sym (take-append-drop (length m - 16) (drop 8 m))) ∙ reverse-append inner (drop (length m - 16) (drop 8 m)) ∙ ap (λ x. reverse x ++ reverse inner) last)

regroup : (a r m f b : List ℕ) → ((a ++ r) ++ m) ++ (f ++ b) ≡ (a ++ ((r ++ m) ++ f)) ++ b
regroup a r m f b =
    append_assoc (a ++ r) m (f ++ b) ∙ append_assoc a r (m ++ (f ++ b))
    ∙ ap (λ x. a ++ x) (sym (append_assoc r m (f ++ b)) ∙ sym (append_assoc (r ++ m) f b))
    ∙ sym (append_assoc a ((r ++ m) ++ f) b)

-- ends, the lengths of the parts being known
parts_turned : (first a r m f b : List ℕ) (n done : ℕ) → length first ≡ n → length a ≡ done → length r ≡ 8 → length m ≡ n - done - done - 16 → length f ≡ 8 → length b ≡ done → done + done + 16 ≤ n
    → (a ++ ((r ++ reverse m) ++ f)) ++ b ≡ reverse first → IsTurning first ((a ++ ((r ++ m) ++ f)) ++ b) (done + 8)
parts_turned first a r m f b n done total al rl ml fl bl long all =
    let now : List ℕ = (a ++ ((r ++ m) ++ f)) ++ b in
    let split : now ≡ ((a ++ r) ++ m) ++ (f ++ b) = sym (regroup a r m f b) in
    let split_first : now ≡ (a ++ r) ++ (m ++ (f ++ b)) = split ∙ append_assoc (a ++ r) m (f ++ b) in
    let ar_len : length (a ++ r) ≡ done + 8 = omega (arith, length-append a r, al, rl) in
    let arm_len : length ((a ++ r) ++ m) ≡ length first - (done + 8) = omega (arith, length-append (a ++ r) m, ar_len, ml, total, long) in
    let fb_len : length (f ++ b) ≡ done + 8 = omega (arith, length-append f b, fl, bl) in
    let m_len : length m ≡ length first - (done + 8) - (done + 8) = omega (arith, ml, total, long) in
    let front : take (done + 8) now ≡ a ++ r = ap (take (done + 8)) split_first ∙ take_at (a ++ r) (m ++ (f ++ b)) (done + 8) ar_len in
    let rest : drop (done + 8) now ≡ m ++ (f ++ b) = ap (drop (done + 8)) split_first ∙ drop_at (a ++ r) (m ++ (f ++ b)) (done + 8) ar_len in
    let middle : take (length first - (done + 8) - (done + 8)) (drop (done + 8) now) ≡ m =
    ap (take (length first - (done + 8) - (done + 8))) rest ∙ take_at m (f ++ b) (length first - (done + 8) - (done + 8)) m_len in
    let end : drop (length first - (done + 8)) now ≡ f ++ b = ap (drop (length first - (done + 8))) split ∙ drop_at ((a ++ r) ++ m) (f ++ b) (length first - (done + 8)) arm_len in
    record {
      len = ap length split ∙ length-append ((a ++ r) ++ m) (f ++ b) ∙ omega (arith, arm_len, fb_len, total, long);
      half = omega (arith, total, long);
      all = (λ i. (front i ++ reverse (middle i)) ++ end i) ∙ regroup a r (reverse m) f b ∙ all;
    }

pub turning_more : (first now part : List ℕ) (done k : ℕ) → IsTurning first now done → done + done + 16 ≤ length first → k ≡ length first - done - done
    → part ≡ reverse (drop (length (take k (drop done now)) - 8) (take k (drop done now))) ++ take (length (take k (drop done now)) - 16) (drop 8 (take k (drop done now))) ++ reverse (take 8 (take k (drop done now)))
    → IsTurning first (put_mid done k now part) (done + 8)
turning_more first now part done k t long k_is part_is =
    let n : ℕ = length first in
    let m : List ℕ = take k (drop done now) in
    let m_len : length m ≡ k = length-take-le k (drop done now) (omega (arith, length-drop done now, t.len, k_is, long)) in
    let r : List ℕ = reverse (drop (length m - 8) m) in
    let inner : List ℕ = take (length m - 16) (drop 8 m) in
    let f : List ℕ = reverse (take 8 m) in
    let r_len : length r ≡ 8 = length-reverse (drop (length m - 8) m) ∙ omega (arith, length-drop (length m - 8) m, m_len, k_is, long) in
    let inner_len : length inner ≡ n - done - done - 16 = length-take-le (length m - 16) (drop 8 m) (omega (arith, length-drop 8 m, m_len, k_is, long)) ∙ omega (arith, m_len, k_is, long) in
    let f_len : length f ≡ 8 = length-reverse (take 8 m) ∙ length-take-le 8 m (omega (arith, m_len, k_is, long)) in
    let a_len : length (take done now) ≡ done = length-take-le done now (omega (arith, t.len, t.half)) in
    let b_len : length (drop (n - done) now) ≡ done = omega (arith, length-drop (n - done) now, t.len, t.half) in
    let part_len : length part ≡ k = ap length part_is ∙ length-append (r ++ inner) f ∙ omega (arith, length-append r inner, r_len, inner_len, f_len, k_is, long) in
    let after : done + k ≡ n - done = omega (arith, k_is, long) in
    let written : put_mid done k now part ≡ (take done now ++ ((r ++ inner) ++ f)) ++ drop (n - done) now =
    put_is done k now part (omega (arith, t.len, t.half)) part_len ∙ (λ i. (take done now ++ part_is i) ++ drop (after i) now) in
    let old : (take done now ++ reverse m) ++ drop (n - done) now ≡ reverse first = ap (λ j. (take done now ++ reverse (take j (drop done now))) ++ drop (n - done) now) k_is ∙ t.all in
    let all : (take done now ++ ((r ++ reverse inner) ++ f)) ++ drop (n - done) now ≡ reverse first = ap (λ x. (take done now ++ x) ++ drop (n - done) now) (sym (middle_cut m (omega (arith, m_len, k_is, long)))) ∙ old in
    subst (λ x. IsTurning first x (done + 8)) (sym written) (parts_turned first (take done now) r inner f (drop (n - done) now) n done refl a_len r_len inner_len f_len b_len long all)
