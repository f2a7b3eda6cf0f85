-- The whitespace that a text begins with.
use Rattle.std.proofs.Common.{◌≡◌, ℕ, zero, suc, ◌+◌, ◌<◌, ◌≤◌, Bool, true, false, List, [], ◌∷◌, length, take, get_or, IsUtf8, IsCharBoundary, if◌then◌else◌, ap, refl, subst, arith, length-take}
use Rattle.std.proofs.lemmas.Bool.Decides.{nat_tests}
use Rattle.std.proofs.lemmas.Str.{IsCharBoundary-after_ascii, IsCharBoundary-start}
use Rattle.hm_base.specs.Bytes.{front, is_space}

pub space_ascii : (c : ℕ) → is_space c ≡ true → c < 128
unfolding is_space
space_ascii c h = grind (arith, nat_tests)

front_is : (s : List ℕ) (i : ℕ) → i < length (front is_space s) → is_space (get_or s i 0) ≡ true
front_is [] i h = absurd (omega arith)
front_is (c ∷ s) i h = by_test (is_space c) refl i h (front_is s)
  where
    by_test : (b : Bool) → is_space c ≡ b → (i : ℕ) → i < length (if b then c ∷ front is_space s else []) → ((j : ℕ) → j < length (front is_space s) → is_space (get_or s j 0) ≡ true) → is_space (get_or (c ∷ s) i 0) ≡ true
    by_test false e i l more = absurd (omega arith)
    by_test true e zero l more = e
    by_test true e (suc i) l more = more i (omega arith)

-- a text may be cut after its leading whitespace
pub space_boundary : (s : List ℕ) (n : ℕ) → IsUtf8 s → n ≤ length s → take n s ≡ front is_space s → IsCharBoundary s n
space_boundary s zero utf8 inside e = IsCharBoundary-start s utf8
space_boundary s (suc n) utf8 inside e =
    let last : n < length (front is_space s) = omega (arith, ap length e, length-take (suc n) s) in
    let on : n + 1 ≡ suc n = omega arith in
    subst (IsCharBoundary s) on (IsCharBoundary-after_ascii s n utf8 (omega arith) (space_ascii (get_or s n 0) (front_is s n last)))
