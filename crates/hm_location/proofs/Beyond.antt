-- A place beyond the end of a text is as its end.
use Rattle.std.proofs.Common.{◌≡◌, ℕ, zero, suc, ◌+◌, ◌≤◌, Bool, true, false, cond, ◌&&◌, ◌==◌, List, [], ◌∷◌, ◌++◌, length, slice_index, drop, refl, sym, ap, ◌∙◌, arith}
use Rattle.std.proofs.lemmas.List.{drop_all}
use Rattle.hm_base.specs.Bytes.{head_is}
use Rattle.hm_location.specs.Lines.{column_of, columns, ends_line, front_from, line_ends, line_front, line_of}
use Rattle.hm_location.specs.Shown.{front_shown, line_rest, rest_shown, shown_before, shown_after, shown_place}
use Rattle.hm_location.specs.declared.shown.TheConstants.{BEFORE, AFTER_PLACE}

ends_beyond : (s : List ℕ) (n : ℕ) → length s ≤ n → line_ends n s ≡ line_ends (length s) s
ends_beyond [] zero l = refl
ends_beyond [] (suc n) l = refl
ends_beyond (c ∷ s) zero l = absurd (omega arith)
ends_beyond (c ∷ s) (suc n) l = ap (λ k. cond (ends_line c s) 1 0 + k) (ends_beyond s n (omega arith))

front_beyond : (q s : List ℕ) (n : ℕ) → length s ≤ n → front_from q n s ≡ front_from q (length s) s
front_beyond q [] zero l = refl
front_beyond q [] (suc n) l = refl
front_beyond q (c ∷ s) zero l = absurd (omega arith)
front_beyond q (c ∷ s) (suc n) l = front_beyond (cond (ends_line c s) [] (q ++ c ∷ [])) s n (omega arith)

no_both : (a : Bool) (n m : ℕ) → cond (a && false) n m ≡ m
no_both true n m = refl
no_both false n m = refl

place_beyond : (s : List ℕ) (n : ℕ) → length s ≤ n → shown_place s n ≡ n
place_beyond s zero l = refl
place_beyond s (suc i) l =
    let none : drop (suc i) s ≡ [] = drop_all (suc i) s l in
    ap (λ q. cond (slice_index s i == 13 && head_is (λ c. c == 10) q) i (suc i)) none ∙ no_both (slice_index s i == 13) i (suc i)

-- what is told of two places is the same
pub record IsAlike (s : List ℕ) (n m : ℕ) : Type 0 where
  pub line : line_of s n ≡ line_of s m
  pub column : column_of s n ≡ column_of s m
  pub front : front_shown s n ≡ front_shown s m
  pub rest : rest_shown s n ≡ rest_shown s m

pub beyond : (s : List ℕ) (n : ℕ) → length s ≤ n → IsAlike s (length s) n
unfolding line_of column_of front_shown rest_shown
beyond s n l =
    let front : line_front s (length s) ≡ line_front s n = sym (front_beyond [] s n l) in
    let here : shown_place s (length s) ≡ length s = place_beyond s (length s) (omega arith) in
    let there : shown_place s n ≡ n = place_beyond s n l in
    let none : drop (length s) s ≡ [] = drop_all (length s) s (omega arith) in
    let none_there : drop n s ≡ [] = drop_all n s l in
    record {
      line = ap (λ k. 1 + k) (sym (ends_beyond s n l));
      column = ap (λ q. 1 + columns q) front;
      front = ap (λ p. shown_before BEFORE (line_front s p)) here ∙ ap (shown_before BEFORE) front ∙ ap (λ p. shown_before BEFORE (line_front s p)) (sym there);
      rest = ap (λ p. shown_after AFTER_PLACE (line_rest (drop p s))) here ∙ ap (λ q. shown_after AFTER_PLACE (line_rest q)) (none ∙ sym none_there) ∙ ap (λ p. shown_after AFTER_PLACE (line_rest (drop p s))) (sym there);
    }
