-- Texts that are joined from the right, as they are written, and from the left, as they are defined.
use Rattle.std.proofs.Common.{◌≡◌, ℕ, ◌++◌, List, sym, ◌∙◌}
use Rattle.std.proofs.lemmas.List.{append_assoc}

pub five : (a b c d e : List ℕ) → a ++ (b ++ (c ++ (d ++ e))) ≡ a ++ b ++ c ++ d ++ e
five a b c d e = sym (append_assoc a b (c ++ (d ++ e))) ∙ sym (append_assoc (a ++ b) c (d ++ e)) ∙ sym (append_assoc (a ++ b ++ c) d e)

pub six : (a b c d e f : List ℕ) → a ++ (b ++ (c ++ (d ++ (e ++ f)))) ≡ a ++ b ++ c ++ d ++ e ++ f
six a b c d e f = five a b c d (e ++ f) ∙ sym (append_assoc (a ++ b ++ c ++ d) e f)

pub seven : (a b c d e f g : List ℕ) → a ++ (b ++ (c ++ (d ++ (e ++ (f ++ g))))) ≡ a ++ b ++ c ++ d ++ e ++ f ++ g
seven a b c d e f g = five a b c d (e ++ (f ++ g)) ∙ sym (append_assoc (a ++ b ++ c ++ d) e (f ++ g)) ∙ sym (append_assoc (a ++ b ++ c ++ d ++ e) f g)

pub nine : (a b c d e f g h i : List ℕ) → a ++ (b ++ (c ++ (d ++ (e ++ (f ++ (g ++ (h ++ i))))))) ≡ a ++ b ++ c ++ d ++ e ++ f ++ g ++ h ++ i
nine a b c d e f g h i = seven a b c d e f (g ++ (h ++ i)) ∙ sym (append_assoc (a ++ b ++ c ++ d ++ e ++ f) g (h ++ i)) ∙ sym (append_assoc (a ++ b ++ c ++ d ++ e ++ f ++ g) h i)

pub ten : (a b c d e f g h i j : List ℕ) → a ++ (b ++ (c ++ (d ++ (e ++ (f ++ (g ++ (h ++ (i ++ j)))))))) ≡ a ++ b ++ c ++ d ++ e ++ f ++ g ++ h ++ i ++ j
ten a b c d e f g h i j = nine a b c d e f g h (i ++ j) ∙ sym (append_assoc (a ++ b ++ c ++ d ++ e ++ f ++ g ++ h) i j)
