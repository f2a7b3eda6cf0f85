-- Tests joined by && and ||.
use Rattle.std.proofs.Common.{◌≡◌, ℕ, ◌≤◌, Bool, true, false, ◌&&◌, ◌||◌, ◌==◌, nat_le, refl, arith}

pub and_left : (a b : Bool) → a && b ≡ true → a ≡ true
and_left true b h = refl
and_left false b h = h

pub and_right : (a b : Bool) → a && b ≡ true → b ≡ true
and_right true b h = h
and_right false b h = absurd (cc)

pub no_second : (a b c : Bool) → (a && b) || (c && false) ≡ true → b ≡ true
no_second true b c h = grind (arith)
no_second false b true h = absurd (cc)
no_second false b false h = absurd (cc)

pub eq_of : (x y : ℕ) → (x == y) ≡ true → x ≡ y
eq_of x y h = grind arith

pub le_of : (m n : ℕ) → nat_le m n ≡ true → m ≤ n
le_of m n h = grind arith
