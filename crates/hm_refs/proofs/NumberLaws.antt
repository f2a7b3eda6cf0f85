-- The best number of a code point.
use Rattle.std.proofs.Common.{◌≡◌, ℕ, ◌+◌, ◌<◌, ◌≤◌, ◌⊎◌, inl, inr, Bool, true, false, cond, ◌&&◌, ◌||◌, ◌==◌, nat_le, nat_lt, List, [], ◌∷◌, length, get_or, drop, Option, Some, None, refl, sym, ap, ◌∙◌, subst, arith}
use Rattle.std.specs.Char.{InScalarRange, OutOfScalarRange}
use Rattle.std.specs.List.{list_all}
use Rattle.std.proofs.lemmas.List.{at_drop_more}
use Rattle.hm_refs.specs.Numbers.{point_of, replaced, look_up, look_back, or_number, or_itself, best_number}
use Rattle.hm_refs.specs.Laws.{IsBestNumber}
use Rattle.hm_refs.proofs.Bools.{and_left, and_right, eq_of, le_of}

-- a test that each pair of the table passes, at a pair that is found
pub back_passes : (test : ℕ × ℕ → Bool) (c n : ℕ) (ps : List (ℕ × ℕ)) → list_all test ps ≡ true → look_back c ps ≡ Some n → test (n, c) ≡ true
back_passes test c n [] h e = absurd (cc)
back_passes test c n ((a, b) ∷ ps) h e = by_test (b == c) refl e (back_passes test c n ps (and_right (test (a, b)) (list_all test ps) h))
  where
    by_test : (f : Bool) → (b == c) ≡ f → cond f (Some a) (look_back c ps) ≡ Some n → (look_back c ps ≡ Some n → test (n, c) ≡ true) → test (n, c) ≡ true
    by_test true g k more = let i : a ≡ n = cc in let j = eq_of b c g in subst (λ z. test (z, c) ≡ true) i (subst (λ z. test (a, z) ≡ true) j (and_left (test (a, b)) (list_all test ps) h))
    by_test false g k more = more k

pub up_passes : (test : ℕ × ℕ → Bool) (n c : ℕ) (ps : List (ℕ × ℕ)) → list_all test ps ≡ true → look_up n ps ≡ Some c → test (n, c) ≡ true
up_passes test n c [] h e = absurd (cc)
up_passes test n c ((a, b) ∷ ps) h e = by_test (a == n) refl e (up_passes test n c ps (and_right (test (a, b)) (list_all test ps) h))
  where
    by_test : (f : Bool) → (a == n) ≡ f → cond f (Some b) (look_up n ps) ≡ Some c → (look_up n ps ≡ Some c → test (n, c) ≡ true) → test (n, c) ≡ true
    by_test true g k more = let i : b ≡ c = cc in let j = eq_of a n g in subst (λ z. test (n, z) ≡ true) i (subst (λ z. test (z, b) ≡ true) j (and_left (test (a, b)) (list_all test ps) h))
    by_test false g k more = more k

-- a number and its replacement: the number gives it, is small and below it
abbrev pub goes_back : ℕ × ℕ → Bool
goes_back p = (point_of p.0 == p.1) && (nat_le p.0 255 && nat_le p.0 p.1)

pub all_go_back : list_all goes_back replaced ≡ true
unfolding point_of
all_go_back = refl

abbrev pub is_number : Option ℕ → ℕ → Bool
is_number None n = false
is_number (Some m) n = m == n

-- and it is the only number with this replacement
abbrev pub comes_back : ℕ × ℕ → Bool
comes_back p = is_number (look_back p.1 replaced) p.0

all_come_back : list_all comes_back replaced ≡ true
all_come_back = refl

number_is : (o : Option ℕ) (n : ℕ) → is_number o n ≡ true → o ≡ Some n
number_is None n h = absurd (cc)
number_is (Some m) n h = ap Some (eq_of m n h)

zero_point : point_of 0 ≡ 0xFFFD
unfolding point_of
zero_point = refl

-- what a number gives: U+FFFD, or a replacement, or itself
pub record Gives (m c : ℕ) : Type 0 where
  pub small : m ≤ 0x10FFFF
  pub is : or_number (look_up m replaced) m ≡ c

pub gives_of : (m c : ℕ) → point_of m ≡ c → (c == 0xFFFD) ≡ false → Gives m c
unfolding point_of
gives_of m c e n = by_test (m == 0 || (nat_le 0xD800 m && nat_le m 0xDFFF)) (nat_lt 0x10FFFF m) refl e
  where
    by_test : (a b : Bool) → nat_lt 0x10FFFF m ≡ b → cond (a || b) 0xFFFD (or_number (look_up m replaced) m) ≡ c → Gives m c
    by_test true b h k = absurd (let g = subst (λ z. (z == 0xFFFD) ≡ false) (sym k) n in cc)
    by_test false true h k = absurd (let g = subst (λ z. (z == 0xFFFD) ≡ false) (sym k) n in cc)
    by_test false false h k = record { small = grind arith; is = k }

-- the best number gives the point
pub best_gives : (c n : ℕ) → best_number c ≡ Some n → (point_of n ≡ c) × (n ≤ 0x10FFFF)
unfolding best_number
best_gives c n h = by_test (c == 0xFFFD) refl h
  where
    itself : (b d : Bool) → (point_of c == c) ≡ b → (c == 0xFFFD) ≡ false → cond b (Some c) None ≡ Some n → (point_of n ≡ c) × (n ≤ 0x10FFFF)
    itself true d g f k = let i : c ≡ n = cc in let p = eq_of (point_of c) c g in subst (λ z. (point_of z ≡ c) × (z ≤ 0x10FFFF)) i (p, (gives_of c c p f).small)
    itself false d g f k = absurd (cc)

    by_back : (o : Option ℕ) → look_back c replaced ≡ o → (c == 0xFFFD) ≡ false → or_itself o c ≡ Some n → (point_of n ≡ c) × (n ≤ 0x10FFFF)
    by_back None g f k = itself (point_of c == c) true refl f k
    by_back (Some m) g f k =
        let i : m ≡ n = cc in
        let t = back_passes goes_back c m replaced all_go_back g in
        subst (λ z. (point_of z ≡ c) × (z ≤ 0x10FFFF)) i (eq_of (point_of m) c (and_left (point_of m == c) (nat_le m 255 && nat_le m c) t), by_le (le_of m 255 (and_left (nat_le m 255) (nat_le m c) (and_right (point_of m == c) (nat_le m 255 && nat_le m c) t))))
      where
        by_le : m ≤ 255 → m ≤ 0x10FFFF
        by_le l = omega arith

    by_test : (b : Bool) → (c == 0xFFFD) ≡ b → cond b (Some 0) (or_itself (look_back c replaced) c) ≡ Some n → (point_of n ≡ c) × (n ≤ 0x10FFFF)
    by_test true g k = let i : 0 ≡ n = cc in subst (λ z. (point_of z ≡ c) × (z ≤ 0x10FFFF)) i (zero_point ∙ sym (eq_of c 0xFFFD g), omega arith)
    by_test false g k = by_back (look_back c replaced) refl g k

-- and it is the least that does
pub record Least (m c : ℕ) : Type 0 where
  pub best : ℕ
  pub is : best_number c ≡ Some best
  pub le : best ≤ m
  pub high : 255 < best → best ≡ c

pub same_eq : (c : ℕ) → (c == c) ≡ true
same_eq c = grind arith

pub best_least : (m c : ℕ) → point_of m ≡ c → Least m c
unfolding best_number
best_least m c e = by_test (c == 0xFFFD) refl
  where
    by_pair : (k : ℕ) → look_back c replaced ≡ Some k → (c == 0xFFFD) ≡ false → k ≤ m → Least m c
    by_pair k g f l =
        let t = and_left (nat_le k 255) (nat_le k c) (and_right (point_of k == c) (nat_le k 255 && nat_le k c) (back_passes goes_back c k replaced all_go_back g)) in
        let small = le_of k 255 t in
        record { best = k; is = rw (f, g) refl; le = l; high = λ h. absurd (omega arith) }

    by_back : (o : Option ℕ) (u : Option ℕ) → look_back c replaced ≡ o → look_up m replaced ≡ u → (c == 0xFFFD) ≡ false → or_number u m ≡ c → Least m c
    by_back (Some k) (Some d) g h f i =
        let j : d ≡ c = i in
        let s = number_is (look_back d replaced) m (up_passes comes_back m d replaced all_come_back h) in
        let s' = subst (λ z. look_back z replaced ≡ Some m) j s in
        let k' : k ≡ m = cc in
        by_pair k g f (omega arith)
    by_back (Some k) None g h f i =
        let t = and_right (nat_le k 255) (nat_le k c) (and_right (point_of k == c) (nat_le k 255 && nat_le k c) (back_passes goes_back c k replaced all_go_back g)) in
        let le = le_of k c t in
        let j : m ≡ c = i in
        by_pair k g f (omega arith)
    by_back None (Some d) g h f i =
        let j : d ≡ c = i in
        let s = number_is (look_back d replaced) m (up_passes comes_back m d replaced all_come_back h) in
        let s' = subst (λ z. look_back z replaced ≡ Some m) j s in
        absurd (cc)
    by_back None None g h f i =
        let j : m ≡ c = i in
        let p : point_of c ≡ c = subst (λ z. point_of z ≡ c) j e in
        record { best = c; is = rw (f, g, p, same_eq c) refl; le = omega arith; high = λ h'. refl }

    by_test : (b : Bool) → (c == 0xFFFD) ≡ b → Least m c
    by_test true g = record { best = 0; is = rw g refl; le = omega arith; high = λ h. absurd (omega arith) }
    by_test false g = by_back (look_back c replaced) (look_up m replaced) refl refl g (gives_of m c e g).is

-- a number above all code points stands for U+FFFD, so that a reader of digits may stop at 0x110000
pub point_above : (n : ℕ) → 0x10FFFF < n → point_of n ≡ 0xFFFD
unfolding point_of
point_above n h = by_test (n == 0 || (nat_le 0xD800 n && nat_le n 0xDFFF)) (nat_lt 0x10FFFF n) (grind arith)
  where
    by_test : (a b : Bool) → b ≡ true → cond (a || b) 0xFFFD (or_number (look_up n replaced) n) ≡ 0xFFFD
    by_test true b e = refl
    by_test false b e = rw e refl

-- the plain reading
pub best_is_least : (c n : ℕ) → best_number c ≡ Some n → IsBestNumber c n
best_is_least c n h = record { gives = (best_gives c n h).0; least = λ m e. by_least m (best_least m c e) }
  where
    by_least : (m : ℕ) → Least m c → n ≤ m
    by_least m l = let i : Some n ≡ Some l.best = sym h ∙ l.is in let j : n ≡ l.best = cc in omega (arith, l.le)

pub none_is_best : (c : ℕ) → best_number c ≡ None → (m : ℕ) → point_of m ≡ c → ⊥
none_is_best c h m e = let l = best_least m c e in let i : None ≡ Some l.best = sym h ∙ l.is in cc

-- ---- the table read from a place on

pub up_here : (n : ℕ) (ps : List (ℕ × ℕ)) (i : ℕ) (d : ℕ × ℕ) → i < length ps → (get_or ps i d).0 ≡ n → look_up n (drop i ps) ≡ Some (get_or ps i d).1
up_here n ps i d l h = at_drop_more (look_up n) ps i d l ∙ rw h (by_test (n == n) (same_eq n))
  where
    by_test : (b : Bool) → b ≡ true → cond b (Some (get_or ps i d).1) (look_up n (drop (i + 1) ps)) ≡ Some (get_or ps i d).1
    by_test true e = refl
    by_test false e = absurd (cc)

pub up_later : (n : ℕ) (ps : List (ℕ × ℕ)) (i : ℕ) (d : ℕ × ℕ) → i < length ps → ((get_or ps i d).0 ≡ n → ⊥) → look_up n (drop i ps) ≡ look_up n (drop (i + 1) ps)
up_later n ps i d l h = at_drop_more (look_up n) ps i d l ∙ by_test ((get_or ps i d).0 == n) refl
  where
    by_test : (b : Bool) → ((get_or ps i d).0 == n) ≡ b → cond b (Some (get_or ps i d).1) (look_up n (drop (i + 1) ps)) ≡ look_up n (drop (i + 1) ps)
    by_test true e = absurd (h (eq_of (get_or ps i d).0 n e))
    by_test false e = refl

pub back_here : (c : ℕ) (ps : List (ℕ × ℕ)) (i : ℕ) (d : ℕ × ℕ) → i < length ps → (get_or ps i d).1 ≡ c → look_back c (drop i ps) ≡ Some (get_or ps i d).0
back_here c ps i d l h = at_drop_more (look_back c) ps i d l ∙ rw h (by_test (c == c) (same_eq c))
  where
    by_test : (b : Bool) → b ≡ true → cond b (Some (get_or ps i d).0) (look_back c (drop (i + 1) ps)) ≡ Some (get_or ps i d).0
    by_test true e = refl
    by_test false e = absurd (cc)

pub back_later : (c : ℕ) (ps : List (ℕ × ℕ)) (i : ℕ) (d : ℕ × ℕ) → i < length ps → ((get_or ps i d).1 ≡ c → ⊥) → look_back c (drop i ps) ≡ look_back c (drop (i + 1) ps)
back_later c ps i d l h = at_drop_more (look_back c) ps i d l ∙ by_test ((get_or ps i d).1 == c) refl
  where
    by_test : (b : Bool) → ((get_or ps i d).1 == c) ≡ b → cond b (Some (get_or ps i d).0) (look_back c (drop (i + 1) ps)) ≡ look_back c (drop (i + 1) ps)
    by_test true e = absurd (h (eq_of (get_or ps i d).1 c e))
    by_test false e = refl

-- a scalar value other than zero gives its replacement, or itself
pub point_replaced : (n : ℕ) → (n ≡ 0 → ⊥) → InScalarRange n → point_of n ≡ or_number (look_up n replaced) n
unfolding point_of
point_replaced n z r = by_tests (n == 0) (nat_le 0xD800 n && nat_le n 0xDFFF) (nat_lt 0x10FFFF n) (zero_no (n == 0) refl) (low_no r) (high_no r)
  where
    zero_no : (b : Bool) → (n == 0) ≡ b → b ≡ false
    zero_no true e = absurd (z (eq_of n 0 e))
    zero_no false e = refl

    low_no : InScalarRange n → (nat_le 0xD800 n && nat_le n 0xDFFF) ≡ false
    low_no (inl l) = grind arith
    low_no (inr l) = grind arith

    high_no : InScalarRange n → nat_lt 0x10FFFF n ≡ false
    high_no (inl l) = grind arith
    high_no (inr l) = grind arith

    by_tests : (a b c : Bool) → a ≡ false → b ≡ false → c ≡ false → cond (a || b || c) 0xFFFD (or_number (look_up n replaced) n) ≡ or_number (look_up n replaced) n
    by_tests a b c e f g = rw (e, f, g) refl

-- zero, a surrogate and what is too large give U+FFFD
pub point_missing : (n : ℕ) → (n ≡ 0) ⊎ OutOfScalarRange n → point_of n ≡ 0xFFFD
unfolding point_of
point_missing n (inl e) = rw e refl
point_missing n (inr (inl l)) = by_tests (n == 0) (nat_le 0xD800 n && nat_le n 0xDFFF) (nat_lt 0x10FFFF n) (grind arith)
  where
    by_tests : (a b c : Bool) → b ≡ true → cond (a || b || c) 0xFFFD (or_number (look_up n replaced) n) ≡ 0xFFFD
    by_tests true b c e = refl
    by_tests false b c e = rw e refl
point_missing n (inr (inr l)) = point_above n (omega arith)
