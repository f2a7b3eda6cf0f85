-- A run of letters is the front of a run of other bytes too.
use Rattle.std.proofs.Common.{◌≡◌, ℕ, Bool, true, List, [], ◌∷◌, ◌++◌, drop, slice_range, refl, ap, sym, ◌∙◌}
use Rattle.std.proofs.lemmas.Bool.{and_parts}
use Rattle.hm_base.specs.Bytes.{all_pass, rest_after, front}
use Rattle.hm_base.specs.Forms.{is_small, is_tag_byte}
use Rattle.hm_refs.specs.Reads.{IsEndOf}
use Rattle.hm_base.proofs.Bytes.{front_passes}
use Rattle.hm_refs.proofs.RunEnds.{Runs}
use Rattle.hm_scan.proofs.PlainNames.{small_stays}
use Rattle.hm_scan.proofs.TagParts.{split_at}

all_tag_bytes : (xs : List ℕ) → all_pass is_small xs ≡ true → all_pass is_tag_byte xs ≡ true
all_tag_bytes [] h = refl
all_tag_bytes (c ∷ xs) h =
    let both : (is_small c ≡ true) × (all_pass is_small xs ≡ true) = and_parts (is_small c) (all_pass is_small xs) h in
    rw (small_stays c both.0, all_tag_bytes xs both.1) refl

front_over : (p : ℕ → Bool) (xs ys : List ℕ) → all_pass p xs ≡ true → front p (xs ++ ys) ≡ xs ++ front p ys
front_over p [] ys h = refl
front_over p (c ∷ xs) ys h =
    let both : (p c ≡ true) × (all_pass p xs ≡ true) = and_parts (p c) (all_pass p xs) h in
    rw both.0 (ap (λ r. c ∷ r) (front_over p xs ys both.1))

after_over : (p : ℕ → Bool) (xs ys : List ℕ) → all_pass p xs ≡ true → rest_after p (xs ++ ys) ≡ rest_after p ys
after_over p [] ys h = refl
after_over p (c ∷ xs) ys h =
    let both : (p c ≡ true) × (all_pass p xs ≡ true) = and_parts (p c) (all_pass p xs) h in
    rw both.0 (after_over p xs ys both.1)

pub letters_run : (s : List ℕ) (from to : ℕ) → IsEndOf is_small s from to → Runs is_tag_byte s from to
letters_run s from to e =
    let passes : all_pass is_tag_byte (slice_range s from to) ≡ true = all_tag_bytes (slice_range s from to) (ap (all_pass is_small) (sym e.front) ∙ front_passes is_small (drop from s)) in
    let cut : drop from s ≡ slice_range s from to ++ drop to s = split_at s from to e.forward in
    record {
      forward = e.forward;
      inside = e.inside;
      front = ap (front is_tag_byte) cut ∙ front_over is_tag_byte (slice_range s from to) (drop to s) passes;
      after = ap (rest_after is_tag_byte) cut ∙ after_over is_tag_byte (slice_range s from to) (drop to s) passes;
    }
