-- Words in any case, by the lowered text: what a test of a prefix sees of it.
use Rattle.std.proofs.Common.{◌≡◌, ◌≢◌, ℕ, ◌+◌, ◌≤◌, ◌<◌, Bool, true, false, cond, ◌==◌, ◌⊎◌, inl, inr, List, [], ◌∷◌, ◌++◌, map, length, None, option_and_then, refl, sym, ◌∙◌, arith, lit<}
use Rattle.std.proofs.lemmas.Bool.{ne_eqb}
use Rattle.std.proofs.lemmas.Bool.Decides.{nat_tests, Decides-eqb}
use Rattle.hm_base.specs.Bytes.{strip, strip_word, head_is, lower, is_space}
use Rattle.hm_base.specs.RawText.{is_name_end, is_found, is_found_whole}

-- an uppercase letter, or a byte that stays as it is
pub lower_cases : (c : ℕ) → ((65 ≤ c) × (c ≤ 90) × (lower c ≡ c + 32)) ⊎ (((c < 65) ⊎ (90 < c)) × (lower c ≡ c))
unfolding lower
lower_cases c = grind (arith, nat_tests)

-- a byte below the letters is a byte exactly where it is the lowered byte
pub eqb_lower : (a c : ℕ) → a < 65 → (a == lower c) ≡ (a == c)
eqb_lower a c h = elim (lower_cases c) [
  | inl q ↦ rw q.2 (ne_eqb a (c + 32) (λ e. omega arith) ∙ sym (ne_eqb a c (λ e. omega arith)))
  | inr q ↦ rw q.1 refl
]

pub eqb_lower' : (a c : ℕ) → a < 65 → (lower c == a) ≡ (c == a)
eqb_lower' a c h = elim (lower_cases c) [
  | inl q ↦ rw q.2 (ne_eqb (c + 32) a (λ e. omega arith) ∙ sym (ne_eqb c a (λ e. omega arith)))
  | inr q ↦ rw q.1 refl
]

-- whether a byte ends a name doesn't depend on its case
name_end_lower : (c : ℕ) → is_name_end (lower c) ≡ is_name_end c
unfolding is_name_end is_space
name_end_lower c =
    rw (eqb_lower' 9 c (lit< tt), eqb_lower' 10 c (lit< tt), eqb_lower' 12 c (lit< tt), eqb_lower' 13 c (lit< tt), eqb_lower' 32 c (lit< tt), eqb_lower' 47 c (lit< tt), eqb_lower' 62 c (lit< tt)) refl

head_lower : (s : List ℕ) → head_is is_name_end s ≡ head_is is_name_end (map lower s)
head_lower [] = refl
head_lower (c ∷ s) = sym (name_end_lower c)

-- a word before the end of a name, by the lowered text
pub whole_lower : (w s : List ℕ) → is_found_whole (strip_word w s) ≡ is_found_whole (strip w (map lower s))
whole_lower [] s = head_lower s
whole_lower (c ∷ w) [] = refl
whole_lower (c ∷ w) (d ∷ s) = elim (c == lower d) as (λ b. is_found_whole (cond b (strip_word w s) None) ≡ is_found_whole (cond b (strip w (map lower s)) None))
    [ true ↦ whole_lower w s | false ↦ refl ]

-- each byte stands below the letters
abbrev pub AreSigns : List ℕ → Type 0
AreSigns [] = Unit {0}
AreSigns (c ∷ m) = (c < 65) × AreSigns m

-- a mark without letters, by the lowered text
pub found_lower : (m s : List ℕ) → AreSigns m → is_found (strip m s) ≡ is_found (strip m (map lower s))
found_lower [] s signs = refl
found_lower (c ∷ m) [] signs = refl
found_lower (c ∷ m) (d ∷ s) signs = rw (eqb_lower c d signs.0) (
    elim (c == d) as (λ b. is_found (cond b (strip m s) None) ≡ is_found (cond b (strip m (map lower s)) None))
    [ true ↦ found_lower m s signs.1 | false ↦ refl ])

-- What follows a word and one more byte doesn't matter.
pub whole_front : (w z r : List ℕ) → length w < length z → is_found_whole (strip w (z ++ r)) ≡ is_found_whole (strip w z)
whole_front w [] r h = absurd (omega arith)
whole_front [] (d ∷ z) r h = refl
whole_front (c ∷ w) (d ∷ z) r h = elim (c == d) as (λ b. is_found_whole (cond b (strip w (z ++ r)) None) ≡ is_found_whole (cond b (strip w z) None))
    [ true ↦ whole_front w z r (omega arith) | false ↦ refl ]

pub found_front : (m z r : List ℕ) → length m ≤ length z → is_found (strip m (z ++ r)) ≡ is_found (strip m z)
found_front [] z r h = refl
found_front (c ∷ m) [] r h = absurd (omega arith)
found_front (c ∷ m) (d ∷ z) r h = elim (c == d) as (λ b. is_found (cond b (strip m (z ++ r)) None) ≡ is_found (cond b (strip m z) None))
    [ true ↦ found_front m z r (omega arith) | false ↦ refl ]

-- a word that is found stands there
pub whole_word : (w s : List ℕ) → is_found_whole (strip_word w s) ≡ true → (r : List ℕ) × (map lower s ≡ w ++ r)
whole_word [] s h = (map lower s, refl)
whole_word (c ∷ w) [] h = cc
whole_word (c ∷ w) (d ∷ s) h = either (c == lower d) refl h (whole_word w s)
  where
    either : (b : Bool) → (c == lower d) ≡ b → is_found_whole (cond b (strip_word w s) None) ≡ true
        → (is_found_whole (strip_word w s) ≡ true → (r : List ℕ) × (map lower s ≡ w ++ r)) → (r : List ℕ) × (lower d ∷ map lower s ≡ (c ∷ w) ++ r)
    either false e f more = cc
    either true e f more =
        let same : c ≡ lower d = (Decides-eqb c (lower d)).0 e in
        ((more f).0, rw (same, (more f).1) refl)

-- a word that is found before the end of a name is found in a longer text
pub whole_longer : (w s y : List ℕ) → is_found_whole (strip_word w s) ≡ true → is_found_whole (strip_word w (s ++ y)) ≡ true
whole_longer [] [] y h = cc
whole_longer [] (d ∷ s) y h = h
whole_longer (c ∷ w) [] y h = cc
whole_longer (c ∷ w) (d ∷ s) y h =
    elim (c == lower d) as (λ b. is_found_whole (cond b (strip_word w s) None) ≡ true → is_found_whole (cond b (strip_word w (s ++ y)) None) ≡ true)
    [ true ↦ λ f. whole_longer w s y f | false ↦ λ f. f ] h

-- a word that is found is no longer than the text
pub word_long : (w s : List ℕ) → is_found (strip_word w s) ≡ true → length w ≤ length s
word_long [] s h = omega arith
word_long (c ∷ w) [] h = cc
word_long (c ∷ w) (d ∷ s) h =
    elim (c == lower d) as (λ b. is_found (cond b (strip_word w s) None) ≡ true → length (c ∷ w) ≤ length (d ∷ s))
    [ true ↦ λ f. omega (arith, word_long w s f) | false ↦ λ f. cc ] h

-- two words, one after the other
pub words_joined : (v w s : List ℕ) → strip_word (v ++ w) s ≡ option_and_then (strip_word w) (strip_word v s)
words_joined [] w s = refl
words_joined (c ∷ v) w [] = refl
words_joined (c ∷ v) w (d ∷ s) = elim (c == lower d) as (λ b. cond b (strip_word (v ++ w) s) None ≡ option_and_then (strip_word w) (cond b (strip_word v s) None))
    [ true ↦ words_joined v w s | false ↦ refl ]
