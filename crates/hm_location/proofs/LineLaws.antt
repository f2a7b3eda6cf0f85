-- Lines, one byte further.
use Rattle.std.proofs.Common.{◌≡◌, ℕ, zero, suc, ◌+◌, ◌-◌, ◌<◌, ◌≤◌, Bool, true, false, cond, List, [], ◌∷◌, ◌++◌, length, get_or, take, drop, refl, sym, ap, ◌∙◌, subst, arith}
use Rattle.std.proofs.lemmas.List.{at_drop_more, get_or-drop, length-drop, take_more}
use Rattle.std.specs.Fmt.{char_count, is_char_start}
use Rattle.hm_location.specs.Lines.{ends_line, line_ends, line_of, front_from, line_front}

-- the byte at a place ends a line
abbrev pub ends_at : List ℕ → ℕ → Bool
ends_at s i = ends_line (get_or s i 0) (drop (suc i) s)

pub more_ends : (s : List ℕ) (i : ℕ) → i < length s → line_ends (suc i) s ≡ line_ends i s + cond (ends_at s i) 1 0
more_ends [] i l = absurd (omega arith)
more_ends (c ∷ s) zero l = omega arith
more_ends (c ∷ s) (suc i) l = let h = more_ends s i (omega arith) in omega (arith, h)

pub more_front : (q s : List ℕ) (i : ℕ) → i < length s → front_from q (suc i) s ≡ cond (ends_at s i) [] (front_from q i s ++ get_or s i 0 ∷ [])
more_front q [] i l = absurd (omega arith)
more_front q (c ∷ s) zero l = refl
more_front q (c ∷ s) (suc i) l = more_front (cond (ends_line c s) [] (q ++ c ∷ [])) s i (omega arith)

-- the line of the byte at a place has a number and a start
pub record IsLine (s : List ℕ) (i number begin : ℕ) : Type 0 where
  pub counted : number ≡ line_of s i
  pub few : number ≤ i + 1
  pub inside : begin ≤ i
  pub front : take (i - begin) (drop begin s) ≡ line_front s i

pub first_line : (s : List ℕ) → IsLine s 0 1 0
unfolding line_of
first_line s = record { counted = refl; few = omega arith; inside = omega arith; front = refl }

next_suc : (s : List ℕ) (i number begin : ℕ) → i < length s → ends_at s i ≡ true → IsLine s i number begin → IsLine s (suc i) (number + 1) (suc i)
unfolding line_of
next_suc s i number begin l e k =
    let n : suc i - suc i ≡ 0 = omega arith in
    let z : (◌≡◌ {A = ℕ} (cond (ends_at s i) 1 0) 1) = rw e refl in
    record {
      counted = omega (arith, more_ends s i l, z, k.counted);
      few = omega (arith, k.few);
      inside = omega arith;
      front = rw (n, more_front [] s i l, e) refl;
    }

same_suc : (s : List ℕ) (i number begin : ℕ) → i < length s → ends_at s i ≡ false → IsLine s i number begin → IsLine s (suc i) number begin
unfolding line_of
same_suc s i number begin l e k =
    let n : suc i - begin ≡ (i - begin) + 1 = omega (arith, k.inside) in
    let j : begin + (i - begin) ≡ i = omega (arith, k.inside) in
    let z : (◌≡◌ {A = ℕ} (cond (ends_at s i) 1 0) 0) = rw e refl in
    let t = take_more (drop begin s) (i - begin) 0 (omega (arith, length-drop begin s, k.inside, l)) in
    let g : get_or (drop begin s) (i - begin) 0 ≡ get_or s i 0 = get_or-drop begin s (i - begin) 0 ∙ ap (λ p. get_or s p 0) j in
    record {
      counted = omega (arith, more_ends s i l, z, k.counted);
      few = omega (arith, k.few);
      inside = omega (arith, k.inside);
      front = rw (n, t, g, k.front, more_front [] s i l, e) refl;
    }

pub next_line : (s : List ℕ) (i number begin : ℕ) → i < length s → ends_line (get_or s i 0) (drop (i + 1) s) ≡ true → IsLine s i number begin → IsLine s (i + 1) (number + 1) (i + 1)
next_line s i number begin l e k =
    let j : suc i ≡ i + 1 = omega arith in
    let f : ends_at s i ≡ true = subst (λ n. ends_line (get_or s i 0) (drop n s) ≡ true) (sym j) e in
    subst (λ n. IsLine s n (number + 1) n) j (next_suc s i number begin l f k)

pub same_line : (s : List ℕ) (i number begin : ℕ) → i < length s → ends_line (get_or s i 0) (drop (i + 1) s) ≡ false → IsLine s i number begin → IsLine s (i + 1) number begin
same_line s i number begin l e k =
    let j : suc i ≡ i + 1 = omega arith in
    let f : ends_at s i ≡ false = subst (λ n. ends_line (get_or s i 0) (drop n s) ≡ false) (sym j) e in
    subst (λ n. IsLine s n number begin) j (same_suc s i number begin l f k)

-- ---- characters

pub next_char : (bs : List ℕ) (i : ℕ) → i < length bs → char_count (drop i bs) ≡ cond (is_char_start (get_or bs i 0)) 1 0 + char_count (drop (i + 1) bs)
unfolding char_count
next_char bs i l = at_drop_more char_count bs i 0 l

pub no_chars : char_count [] ≡ 0
unfolding char_count
no_chars = refl
