-- A text that grows by what comes next in the page.
use Rattle.std.proofs.Common.{◌≡◌, ◌≢◌, ℕ, suc, ◌+◌, ◌≤◌, Bool, true, false, cond, ◌&&◌, ◌==◌, List, [], ◌∷◌, ◌++◌, length, refl, sym, ap, ap₂, ◌∙◌, arith, length-append}
use Rattle.std.specs.Str.{IsUtf8}
use Rattle.std.proofs.lemmas.Bool.Decides.{nat_tests}
use Rattle.std.proofs.lemmas.Bool.{eqb-true}
use Rattle.hm_base.specs.Source.{PlacedByte, Source, numbered, pairs_joined, returns_replaced, source_of}
use Rattle.hm_base.specs.Places.{source_from, with_lines}
use Rattle.hm_base.proofs.Mark.{mark_dropped, mark_missing}
use Rattle.hm_base.proofs.Page.{source_from_start, source_of_lines}
use Rattle.hm_base.proofs.Places.{source_at}
use Rattle.hm_decoder.specs.Pieces.{before_text, grown}
use Rattle.hm_decoder.proofs.Lines.{CutsFine, source_more}

-- a text that isn't the first of its page
on : (v : Source) (s : List ℕ) → (v.end == 0) ≡ false → with_lines v s ≡ grown v s
on v s h = rw h refl

first_so : (v : Source) (s : List ℕ) → (v.end == 0) ≡ true → grown v s ≡ source_of s
first_so v s h = rw h refl

pub grows_on : (v : Source) (s : List ℕ) → v.end ≢ 0 → with_lines v s ≡ grown v s
grows_on v s h = on v s (grind (arith, nat_tests))

is_first : (v : Source) → v.end ≡ 0 → (v.end == 0) ≡ true
is_first v e = rw e refl

pub grows_marked : (v : Source) (s rest : List ℕ) → v.end ≡ 0 → s ≡ 0xEF ∷ 0xBB ∷ 0xBF ∷ rest → with_lines (source_from 3 [] []) rest ≡ grown v s
grows_marked v s rest e is =
    ap (λ (w : Source). with_lines w rest) (source_from_start 3 [] [] refl refl) ∙ source_of_lines true s rest is (mark_dropped s rest is) ∙ sym (first_so v s (is_first v e))

empty : (s : List PlacedByte) → length s ≤ 0 → s ≡ []
empty [] l = refl
empty (a ∷ s) l = absurd (omega arith)

-- at first there is no byte
pub grows_first : (v : Source) (s : List ℕ) → v.end ≡ 0 → length v.placed ≤ v.end → ((rest : List ℕ) → s ≢ 0xEF ∷ 0xBB ∷ 0xBF ∷ rest) → with_lines v s ≡ grown v s
grows_first v s e l h =
    let none : v ≡ source_at [] 0 = ap₂ source_at (empty v.placed (omega arith)) e in
    ap (λ (w : Source). with_lines w s) none ∙ source_of_lines false s s refl (mark_missing s h) ∙ sym (first_so v s (is_first v e))

-- the text of a longer page grows out of that of its front
pub source_grows : (p d : List ℕ) → IsUtf8 p → CutsFine p d → source_of (p ++ d) ≡ grown (source_of p) d
source_grows [] d u fine = refl
source_grows (c ∷ p) d u fine = source_more (c ∷ p) d u (omega arith) fine ∙ on (source_of (c ∷ p)) d (some (length p))
  where
    some : (n : ℕ) → (suc n == 0) ≡ false
    some n = grind (arith, nat_tests)

-- ---- what stands before the text

joined_short : (s : List PlacedByte) → length (pairs_joined s) ≤ length s
joined_short [] = omega arith
joined_short (a ∷ []) = omega arith
joined_short (a ∷ b ∷ s) = by (a.byte == 13 && b.byte == 10) (joined_short s) (joined_short (b ∷ s))
  where
    by : (x : Bool) → length (pairs_joined s) ≤ length s → length (pairs_joined (b ∷ s)) ≤ suc (length s) → length (cond x (record { byte = 10; place = a.place } ∷ pairs_joined s) (a ∷ pairs_joined (b ∷ s))) ≤ suc (suc (length s))
    by true h k = omega arith
    by false h k = omega arith

replaced_long : (s : List PlacedByte) → length (returns_replaced s) ≡ length s
replaced_long [] = refl
replaced_long (a ∷ s) = ap (λ n. suc n) (replaced_long s)

numbered_long : (s : List ℕ) (n : ℕ) → length (numbered n s) ≡ length s
numbered_long [] n = refl
numbered_long (c ∷ s) n = ap (λ m. suc m) (numbered_long s (n + 1))

lines_short : (n : ℕ) (s : List ℕ) → length (returns_replaced (pairs_joined (numbered n s))) ≤ length s
lines_short n s = omega (arith, replaced_long (pairs_joined (numbered n s)), joined_short (numbered n s), numbered_long s n)

pub before_grows : (v : Source) (s : List ℕ) → length v.placed ≤ v.end → before_text v ≤ before_text (grown v s)
before_grows v s l = by (v.end == 0) refl
  where
    by : (b : Bool) → (v.end == 0) ≡ b → before_text v ≤ before_text (grown v s)
    by true e = let z : v.end ≡ 0 = eqb-true v.end 0 e in omega arith
    by false e = rw e (let a = lines_short v.end s in let b = length-append v.placed (returns_replaced (pairs_joined (numbered v.end s))) in omega arith)
