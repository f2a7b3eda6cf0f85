-- Names as they are read.
use Rattle.std.proofs.Common.{◌≡◌, ℕ, false, List, [], ◌∷◌, map, refl, ap₂, arith}
use Rattle.std.specs.Char.{to_ascii_lowercase}
use Rattle.hm_base.specs.Bytes.{lower}
use Rattle.hm_scan.specs.Reading.{is_capital}

lower_is : (c : ℕ) → to_ascii_lowercase c ≡ lower c
unfolding lower
lower_is c = grind arith

pub lowercase_is : (s : List ℕ) → map to_ascii_lowercase s ≡ map lower s
lowercase_is [] = refl
lowercase_is (c ∷ s) = ap₂ (λ d r. d ∷ r) (lower_is c) (lowercase_is s)

pub lower_same : (c : ℕ) → is_capital c ≡ false → lower c ≡ c
unfolding is_capital lower
lower_same c h = rw h refl
