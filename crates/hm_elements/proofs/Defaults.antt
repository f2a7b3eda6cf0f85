-- Values that are compared in any ASCII case.
use Rattle.std.proofs.Common.{◌≡◌, ℕ, List, [], ◌∷◌, map, bytes_eq, ap₂, ◌∙◌, refl, arith}
use Rattle.std.specs.Char.{to_ascii_lowercase}
use Rattle.std.specs.Str.{str_eq_ignore_ascii_case}
use Rattle.hm_base.specs.Bytes.{lower}

lower_is : (c : ℕ) → to_ascii_lowercase c ≡ lower c
unfolding lower
lower_is c = grind arith

pub lowercase_is : (s : List ℕ) → map to_ascii_lowercase s ≡ map lower s
lowercase_is [] = refl
lowercase_is (c ∷ s) = ap₂ (λ d r. d ∷ r) (lower_is c) (lowercase_is s)

-- a value and a word of lowercase letters that are the same apart from their case
pub same_but_case : (value word : List ℕ) → map lower word ≡ word → str_eq_ignore_ascii_case value word ≡ bytes_eq (map lower value) word
same_but_case value word small = ap₂ bytes_eq (lowercase_is value) (lowercase_is word ∙ small)
