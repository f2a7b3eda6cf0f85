-- Hexadecimal digits, the last one apart.
use Rattle.std.proofs.Common.{◌≡◌, ◌∙◌, ℕ, zero, suc, ◌/◌, ◌%◌, ◌^◌, ◌<◌, ◌≤◌, ◌==◌, Bool, true, false, cond, List, [], ◌∷◌, ◌++◌, refl, sym, ap, append_assoc, arith, ⊎_elim}
use Rattle.std.specs.Fmt.{digits, digits_onto, digit_glyph}
use Rattle.std.proofs.lemmas.Bool.{cases_lt, false_from_ne_true}
use Rattle.std.proofs.lemmas.Bool.Decides.{Decides-eqb}

abbrev spell : ℕ → ℕ → List ℕ → List ℕ
spell k n acc = digits_onto k 16 false n acc

abbrev last_glyph : ℕ → ℕ
last_glyph n = digit_glyph false (n % 16)

is_zero : (n : ℕ) → n ≡ 0 → (n == 0) ≡ true
is_zero n e = rw e refl

is_some : (n : ℕ) → (n ≡ 0 → ⊥) → (n == 0) ≡ false
is_some n e = false_from_ne_true (n == 0) (λ t. e ((Decides-eqb n 0).0 t))

spell_last : (k n : ℕ) (acc : List ℕ) → n < 16 → spell (suc k) n acc ≡ last_glyph n ∷ acc
spell_last k n acc h = ap (λ t. cond t (last_glyph n ∷ acc) (spell k (n / 16) (last_glyph n ∷ acc))) (is_zero (n / 16) (omega arith))

spell_next : (k n : ℕ) (acc : List ℕ) → 16 ≤ n → spell (suc k) n acc ≡ spell k (n / 16) (last_glyph n ∷ acc)
spell_next k n acc h = ap (λ t. cond t (last_glyph n ∷ acc) (spell k (n / 16) (last_glyph n ∷ acc))) (is_some (n / 16) (λ e. omega arith))

spell_append : (k n : ℕ) (acc : List ℕ) → spell k n acc ≡ spell k n [] ++ acc
spell_append zero n acc = refl
spell_append (suc k) n acc = by_test (n / 16 == 0) (spell_append k (n / 16) (last_glyph n ∷ acc)) (spell_append k (n / 16) (last_glyph n ∷ []))
  where
    by_test : (b : Bool) → spell k (n / 16) (last_glyph n ∷ acc) ≡ spell k (n / 16) [] ++ last_glyph n ∷ acc → spell k (n / 16) (last_glyph n ∷ []) ≡ spell k (n / 16) [] ++ last_glyph n ∷ []
        → cond b (last_glyph n ∷ acc) (spell k (n / 16) (last_glyph n ∷ acc)) ≡ cond b (last_glyph n ∷ []) (spell k (n / 16) (last_glyph n ∷ [])) ++ acc
    by_test true more one = refl
    by_test false more one = more ∙ sym (append_assoc (spell k (n / 16) []) (last_glyph n ∷ []) acc) ∙ ap (λ x. x ++ acc) (sym one)

-- the bound on the count of digits doesn't matter where it is large enough
spell_enough : (j k n : ℕ) (acc : List ℕ) → n < 16 ^ suc j → n < 16 ^ suc k → spell (suc j) n acc ≡ spell (suc k) n acc
spell_enough zero k n acc p q = spell_last zero n acc (omega arith) ∙ sym (spell_last k n acc (omega arith))
spell_enough (suc j) zero n acc p q = spell_last (suc j) n acc (omega arith) ∙ sym (spell_last zero n acc (omega arith))
spell_enough (suc j) (suc k) n acc p q = ⊎_elim
    (λ l. spell_last (suc j) n acc l ∙ sym (spell_last (suc k) n acc l))
    (λ l. spell_next (suc j) n acc l ∙ spell_enough j k (n / 16) (last_glyph n ∷ acc) (omega arith) (omega arith) ∙ sym (spell_next (suc k) n acc l))
    (cases_lt n 16)

pub hexadecimal_more : (n : ℕ) → 16 ≤ n → n < 2 ^ 32 → digits 16 false (n / 16) ++ digit_glyph false (n % 16) ∷ [] ≡ digits 16 false n
unfolding digits
hexadecimal_more n h small =
    sym (spell_append 64 (n / 16) (last_glyph n ∷ [])) ∙ spell_enough 63 62 (n / 16) (last_glyph n ∷ []) (omega arith) (omega arith) ∙ sym (spell_next 63 n [] h)
