-- How `</>` is skipped.
use Rattle.std.proofs.Common.{◌≡◌, ℕ, ◌+◌, ◌-◌, ◌≤◌, Bool, true, false, ◌&&◌, ◌==◌, List, [], ◌∷◌, length, drop, get_or, refl, sym, ap, subst, ◌∙◌, arith, length-drop}
use Rattle.std.specs.Str.{IsUtf8, IsCharBoundary}
use Rattle.std.proofs.lemmas.Str.{IsCharBoundary-after_ascii}
use Rattle.std.proofs.lemmas.List.{drop-drop, get_or-drop}
use Rattle.std.proofs.lemmas.Bool.Decides.{Decides-eqb}
use Rattle.hm_token_laws.specs.First.{Remainder, after_empty_tags}
use Rattle.hm_lexer.specs.Steps.{begins_empty_tag}

-- with n more bytes before
abbrev pub more_by : ℕ → Remainder → Remainder
more_by n k = record { count = n + k.count; rest = k.rest }

record IsEmptyTag (s : List ℕ) : Type 0 where
  long : 3 ≤ length s
  last : get_or s 2 0 ≡ 62
  over : after_empty_tags s ≡ more_by 3 (after_empty_tags (drop 3 s))

empty_tag : (s : List ℕ) → begins_empty_tag s ≡ true → IsEmptyTag s
empty_tag [] h = absurd (cc)
empty_tag (a ∷ []) h = absurd (cc)
empty_tag (a ∷ b ∷ []) h = absurd (cc)
empty_tag (a ∷ b ∷ c ∷ s) h = record { long = omega arith; last = by_tests (a == 60) (b == 47) (c == 62) refl h; over = rw h refl }
  where
    by_tests : (x y z : Bool) → (c == 62) ≡ z → x && (y && z) ≡ true → c ≡ 62
    by_tests true true true e h = (Decides-eqb c 62).0 e
    by_tests true true false e h = absurd (cc)
    by_tests true false z e h = absurd (cc)
    by_tests false y z e h = absurd (cc)

-- from a place on nothing but `</>` stands before another
pub record IsPassed (s : List ℕ) (at from : ℕ) : Type 0 where
  pub low : at ≤ from
  pub boundary : IsCharBoundary s from
  pub is : after_empty_tags (drop at s) ≡ more_by (from - at) (after_empty_tags (drop from s))

pub passed_more : (s : List ℕ) (at from : ℕ) → IsUtf8 s → IsPassed s at from → begins_empty_tag (drop from s) ≡ true → IsPassed s at (from + 3)
passed_more s at from u p h =
    let e : IsEmptyTag (drop from s) = empty_tag (drop from s) h in
    let low : at ≤ from = p.low in
    let long : length (drop from s) ≡ length s - from = length-drop from s in
    let some : 3 ≤ length (drop from s) = e.long in
    let last : get_or s (from + 2) 0 ≡ 62 = sym (get_or-drop from s 2 0) ∙ e.last in
    let next : from + 2 + 1 ≡ from + 3 = omega arith in
    let count : from - at + 3 ≡ from + 3 - at = omega arith in
    let rest : drop 3 (drop from s) ≡ drop (from + 3) s = drop-drop 3 from s in
    record {
      low = omega arith;
      boundary = subst (λ n. IsCharBoundary s n) next (IsCharBoundary-after_ascii s (from + 2) u (omega arith) (omega arith));
      is = p.is ∙ ap (more_by (from - at)) e.over ∙ more_twice (from - at) 3 (after_empty_tags (drop 3 (drop from s))) ∙ rw (count, rest) refl;
    }
  where
    more_twice : (n m : ℕ) (k : Remainder) → more_by n (more_by m k) ≡ more_by (n + m) k
    more_twice n m k = let same : n + (m + k.count) ≡ n + m + k.count = omega arith in rw same refl
