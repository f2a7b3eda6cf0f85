-- Prefixes of a text, as the library's tests find them.
use Rattle.std.proofs.Common.{◌≡◌, ℕ, ◌<◌, true, false, cond, ◌&&◌, ◌==◌, List, [], ◌∷◌, length, None, nat_eq, refl, arith}
use Rattle.std.specs.List.{starts_with}
use Rattle.hm_base.specs.Bytes.{strip, strip_word, lower}
use Rattle.hm_base.specs.RawText.{is_found}

pub begins_is : (mark s : List ℕ) → starts_with nat_eq s mark ≡ is_found (strip mark s)
begins_is [] s = refl
begins_is (c ∷ mark) [] = refl
begins_is (c ∷ mark) (d ∷ s) = elim (c == d) as (λ b. b && starts_with nat_eq s mark ≡ is_found (cond b (strip mark s) None)) [ true ↦ begins_is mark s | false ↦ refl ]

-- a text that is shorter than a word
pub word_short : (w s : List ℕ) → length s < length w → strip_word w s ≡ None
word_short [] s h = absurd (omega arith)
word_short (c ∷ w) [] h = refl
word_short (c ∷ w) (d ∷ s) h = elim (c == lower d) as (λ b. cond b (strip_word w s) None ≡ None) [ true ↦ word_short w s (omega arith) | false ↦ refl ]
