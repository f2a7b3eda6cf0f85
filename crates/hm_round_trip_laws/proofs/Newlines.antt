-- Bytes whose line ends became line feeds: no CR is left, they are no more, and nothing is left to change.
use Rattle.std.proofs.Common.{◌≡◌, ◌≤◌, ℕ, suc, Bool, true, false, ◌&&◌, ◌==◌, List, [], ◌∷◌, length, refl, sym, ap, ◌∙◌, arith, append-nil, if◌then◌else◌}
use Rattle.std.proofs.lemmas.Bool.{and_from}
use Rattle.hm_base.specs.Bytes.{all_pass}
use Rattle.hm_markup_spec.proofs.LineEnds.{newlines, newlines_after, is_no_return, newlines_plain}

pub none_left : (after : Bool) (s : List ℕ) → all_pass is_no_return (newlines_after after s) ≡ true
none_left after [] = refl
none_left after (c ∷ s) = by_tests (after && c == 10) (c == 13) refl (none_left true s) (none_left false s)
  where
    by_tests : (joins returns : Bool) → (c == 13) ≡ returns → all_pass is_no_return (newlines_after true s) ≡ true → all_pass is_no_return (newlines_after false s) ≡ true
        → all_pass is_no_return (if joins then newlines_after false s else if returns then 10 ∷ newlines_after true s else c ∷ newlines_after false s) ≡ true
    by_tests true returns e one two = two
    by_tests false true e one two = one
    by_tests false false e one two = and_from (is_no_return c) (all_pass is_no_return (newlines_after false s)) (rw e refl) two

pub no_more : (after : Bool) (s : List ℕ) → length (newlines_after after s) ≤ length s
no_more after [] = omega arith
no_more after (c ∷ s) = by_tests (after && c == 10) (c == 13) (no_more true s) (no_more false s)
  where
    by_tests : (joins returns : Bool) → length (newlines_after true s) ≤ length s → length (newlines_after false s) ≤ length s
        → length (if joins then newlines_after false s else if returns then 10 ∷ newlines_after true s else c ∷ newlines_after false s) ≤ suc (length s)
    by_tests true returns one two = omega arith
    by_tests false true one two = omega arith
    by_tests false false one two = omega arith

pub unchanged : (s : List ℕ) → all_pass is_no_return s ≡ true → newlines s ≡ s
unchanged s all = ap newlines (sym (append-nil s)) ∙ newlines_plain s [] all ∙ append-nil s
