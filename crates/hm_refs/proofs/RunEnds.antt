-- How a run goes on by one byte, and where it ends.
use Rattle.std.proofs.Common.{◌≡◌, ℕ, ◌+◌, ◌-◌, ◌<◌, ◌≤◌, Bool, true, List, [], ◌∷◌, ◌++◌, length, take, drop, get_or, slice_range, refl, ap, sym, ◌∙◌, arith, drop-cons, add-one, append_assoc, length-drop}
use Rattle.std.proofs.lemmas.List.{take_more, get_or-drop}
use Rattle.hm_base.specs.Bytes.{front, rest_after}

pub range_more : (s : List ℕ) (from at : ℕ) → from ≤ at → at < length s → slice_range s from (at + 1) ≡ slice_range s from at ++ get_or s at 0 ∷ []
range_more s from at low high =
    let n : at + 1 - from ≡ (at - from) + 1 = omega arith in
    let there : from + (at - from) ≡ at = omega arith in
    let short : at - from < length (drop from s) = simp length-drop (omega arith) in
    ap (λ m. take m (drop from s)) n ∙ take_more (drop from s) (at - from) 0 short
    ∙ ap (λ c. take (at - from) (drop from s) ++ c ∷ []) (get_or-drop from s (at - from) 0 ∙ ap (λ m. get_or s m 0) there)

-- the run has come from one place to another
pub record Runs (p : ℕ → Bool) (s : List ℕ) (from at : ℕ) : Type 0 where
  pub forward : from ≤ at
  pub inside : at ≤ length s
  pub front : front p (drop from s) ≡ slice_range s from at ++ front p (drop at s)
  pub after : rest_after p (drop from s) ≡ rest_after p (drop at s)

pub run_more : (p : ℕ → Bool) (s : List ℕ) (from at : ℕ) → Runs p s from at → at < length s → p (get_or s at 0) ≡ true → Runs p s from (at + 1)
run_more p s from at r h e =
    let cut : drop at s ≡ get_or s at 0 ∷ drop (at + 1) s = rw add-one (drop-cons s at 0 h) in
    let longer : slice_range s from (at + 1) ≡ slice_range s from at ++ get_or s at 0 ∷ [] = range_more s from at r.forward h in
    record {
      forward = omega (arith, r.forward);
      inside = omega arith;
      front = r.front ∙ ap (λ x. slice_range s from at ++ front p x) cut ∙ rw (e, longer) (sym (append_assoc (slice_range s from at) (get_or s at 0 ∷ []) (front p (drop (at + 1) s))));
      after = r.after ∙ ap (rest_after p) cut ∙ rw e refl;
    }

-- the first byte of a rest
pub rest_cons : (s : List ℕ) (n : ℕ) → n < length s → drop n s ≡ get_or s n 0 ∷ drop (n + 1) s
rest_cons s n h = rw add-one (drop-cons s n 0 h)
