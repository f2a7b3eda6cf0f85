-- From the places of a tag's parts to its cuts.
use Rattle.std.proofs.Common.{◌≡◌, ℕ, zero, suc, ◌+◌, ◌-◌, ◌<◌, ◌≤◌, Bool, true, false, ◌&&◌, ◌||◌, ◌==◌, nat_lt, List, [], ◌∷◌, ◌++◌, length, drop, get_or, slice_range, Option, Some, None, inl, inr, refl, ap, sym, subst, ◌∙◌, arith, drop_of_length-le, length-drop}
use Rattle.std.proofs.Math.Bool.{and-false}
use Rattle.std.specs.Str.{IsUtf8, IsCharBoundary}
use Rattle.std.proofs.lemmas.Str.{IsCharBoundary-after_ascii}
use Rattle.std.proofs.lemmas.List.{drop-drop, take-append-drop}
use Rattle.std.proofs.lemmas.Bool.{and_parts, cases_lt}
use Rattle.std.proofs.lemmas.Bool.Decides.{Decides-eqb}
use Rattle.hm_base.specs.Bytes.{rest_after, all_pass, head_is, is_space}
use Rattle.hm_base.specs.Walks as walks
use Rattle.hm_scan.specs.Tags.{is_tag_end, attribute_at, CutTag, with_attribute, with_slash, tag_from, cut_tag}
use Rattle.hm_refs.specs.Reads.{IsEndOf}
use Rattle.hm_scan.specs.TagPlaces.{is_gap_byte, IsAttributeAt}
use Rattle.hm_scan.specs.Parts.{written_in, IsTagEnd, IsPair}
use Rattle.hm_scan.specs.declared.attribute.WrittenAttribute.{WrittenAttribute}
use Rattle.hm_scan.proofs.Cases.{differs}
use Rattle.hm_scan.proofs.Boundaries.{gap_ends}
use Rattle.hm_base.proofs.Bytes.{front_passes}
use Rattle.hm_refs.proofs.RunEnds.{range_more, rest_cons}

no_slash : (o : Option CutTag) → with_slash false o ≡ o
no_slash None = refl
no_slash (Some g) = refl

gap_no_end : (c : ℕ) → is_gap_byte c ≡ true → is_tag_end c ≡ false
unfolding is_tag_end
gap_no_end c h = differs is_gap_byte c 62 h (unfold is_gap_byte is_space in refl)

gap_space : (c : ℕ) → is_gap_byte c ≡ true → (c == 47) ≡ false → is_space c ≡ true
unfolding is_gap_byte
gap_space c h e = parts (is_space c) (c == 47) h e
  where
    parts : (a b : Bool) → a || b ≡ true → b ≡ false → a ≡ true
    parts true b h e = refl
    parts false b h e = absurd (cc)

-- one byte of a gap
gap_one : (c : ℕ) (r : List ℕ) → is_gap_byte c ≡ true → cut_tag (c ∷ r) ≡ with_slash ((c == 47) && head_is is_tag_end r) (cut_tag r)
gap_one c r h = by_test (c == 47) refl
  where
    by_test : (b : Bool) → (c == 47) ≡ b → cut_tag (c ∷ r) ≡ with_slash (b && head_is is_tag_end r) (cut_tag r)
    by_test true e = rw (gap_no_end c h, e) refl
    by_test false e = rw (gap_no_end c h, e, gap_space c h e) (sym (no_slash (cut_tag r)))

gap_many : (g : List ℕ) (c : ℕ) (r : List ℕ) → all_pass is_gap_byte g ≡ true → is_gap_byte c ≡ true → cut_tag (g ++ c ∷ r) ≡ cut_tag (c ∷ r)
gap_many [] c r all h = refl
gap_many (d ∷ g) c r all h =
    let both = and_parts (is_gap_byte d) (all_pass is_gap_byte g) all in
    gap_one d (g ++ c ∷ r) both.0 ∙ rw (no_end g both.1) (rw (and-false (d == 47)) (no_slash (cut_tag (g ++ c ∷ r)))) ∙ gap_many g c r both.1 h
  where
    no_end : (g : List ℕ) → all_pass is_gap_byte g ≡ true → head_is is_tag_end (g ++ c ∷ r) ≡ false
    no_end [] all = gap_no_end c h
    no_end (e ∷ g) all = gap_no_end e (and_parts (is_gap_byte e) (all_pass is_gap_byte g) all).0

pub split_at : (s : List ℕ) (from at : ℕ) → from ≤ at → drop from s ≡ slice_range s from at ++ drop at s
split_at s from at h =
    let there : from + (at - from) ≡ at = omega arith in
    sym (take-append-drop (at - from) (drop from s)) ∙ ap (λ r. slice_range s from at ++ r) (drop-drop (at - from) from s ∙ ap (λ n. drop n s) there)

all_front : (p : ℕ → Bool) (xs ys : List ℕ) → all_pass p (xs ++ ys) ≡ true → (all_pass p xs ≡ true) × (all_pass p ys ≡ true)
all_front p [] ys h = (refl, h)
all_front p (x ∷ xs) ys h =
    let both = and_parts (p x) (all_pass p (xs ++ ys)) h in
    let more = all_front p xs ys both.1 in
    (rw (both.0, more.0) refl, more.1)

-- a whole gap
gap_cut : (s : List ℕ) (from at : ℕ) → IsEndOf is_gap_byte s from at
    → cut_tag (drop from s) ≡ with_slash (nat_lt from at && (get_or s (at - 1) 0 == 47) && head_is is_tag_end (drop at s)) (cut_tag (drop at s))
gap_cut s from at e = elim (cases_lt from at) [ inl h ↦ some h | inr h ↦ none h ]
  where
    none : at ≤ from → cut_tag (drop from s) ≡ with_slash (nat_lt from at && (get_or s (at - 1) 0 == 47) && head_is is_tag_end (drop at s)) (cut_tag (drop at s))
    none h =
        let low = e.forward in
        let same : from ≡ at = omega arith in
        let not_lt : nat_lt from at ≡ false = grind arith in
        ap (λ n. cut_tag (drop n s)) same ∙ rw not_lt (sym (no_slash (cut_tag (drop at s))))

    some : from < at → cut_tag (drop from s) ≡ with_slash (nat_lt from at && (get_or s (at - 1) 0 == 47) && head_is is_tag_end (drop at s)) (cut_tag (drop at s))
    some h =
        let high = e.inside in
        let m = at - 1 in
        let c = get_or s m 0 in
        let next : m + 1 ≡ at = omega arith in
        let lt : nat_lt from at ≡ true = grind arith in
        let longer : slice_range s from at ≡ slice_range s from m ++ c ∷ [] = ap (λ n. slice_range s from n) (sym next) ∙ range_more s from m (omega arith) (omega arith) in
        let passes : all_pass is_gap_byte (slice_range s from m ++ c ∷ []) ≡ true = subst (λ r. all_pass is_gap_byte r ≡ true) (e.front ∙ longer) (front_passes is_gap_byte (drop from s)) in
        let both = all_front is_gap_byte (slice_range s from m) (c ∷ []) passes in
        let last = (and_parts (is_gap_byte c) true both.1).0 in
        let cut : drop from s ≡ slice_range s from m ++ c ∷ drop at s = split_at s from m (omega arith) ∙ ap (λ r. slice_range s from m ++ r) (rest_cons s m (omega arith) ∙ ap (λ n. c ∷ drop n s) next) in
        ap cut_tag cut ∙ gap_many (slice_range s from m) c (drop at s) both.0 last ∙ gap_one c (drop at s) last
        ∙ rw lt refl

-- a tag after skipped bytes
skipped : (k : ℕ) (s : List ℕ) → tag_from k s ≡ cut_tag (drop k s)
skipped zero s = refl
skipped (suc k) [] = refl
skipped (suc k) (c ∷ s) = skipped k s

pub nothing_is : (s : List ℕ) (from : ℕ) → IsEndOf is_gap_byte s from (length s) → cut_tag (drop from s) ≡ None
nothing_is s from e =
    let none : drop (length s) s ≡ [] = drop_of_length-le s (omega arith) in
    gap_cut s from (length s) e ∙ rw none refl

pub end_is : (s : List ℕ) (from at : ℕ) (slash : Bool) → IsUtf8 s → IsEndOf is_gap_byte s from at → at < length s → get_or s at 0 ≡ 62 → slash ≡ nat_lt from at && (get_or s (at - 1) 0 == 47) → IsTagEnd s from slash (at + 1)
unfolding is_tag_end
end_is s from at slash u e h is by = record {
  cut = gap_cut s from at e ∙ rw (rest_cons s at h, is, ← by) (ap (λ b. Some (record { attributes = []; slash = b; rest = drop (at + 1) s })) (plain slash));
  forward = let low = e.forward in omega arith;
  rest = IsCharBoundary-after_ascii s at u h (omega arith);
}
  where
    plain : (b : Bool) → b && true || false ≡ b
    plain true = refl
    plain false = refl

no_gap : (c : ℕ) → is_gap_byte c ≡ false → (is_space c ≡ false) × ((c == 47) ≡ false)
unfolding is_gap_byte
no_gap c h = parts (is_space c) (c == 47) h
  where
    parts : (a b : Bool) → a || b ≡ false → (a ≡ false) × (b ≡ false)
    parts true b h = absurd (cc)
    parts false b h = (refl, h)

no_end_byte : (c : ℕ) → (c ≡ 62 → ⊥) → is_tag_end c ≡ false
unfolding is_tag_end
no_end_byte c and-false = elim (c == 62) as (λ b. (c == 62) ≡ b → b ≡ false) [ true ↦ λ e. absurd (and-false ((Decides-eqb c 62).0 e)) | false ↦ λ e. refl ] refl

-- an attribute at the start
pair_cut : (c : ℕ) (r rest : List ℕ) (a : walks.Attribute) → is_gap_byte c ≡ false → is_tag_end c ≡ false → attribute_at c r ≡ record { attribute = a; rest = rest } → drop (length r - length rest) r ≡ rest
    → cut_tag (c ∷ r) ≡ with_attribute a (cut_tag rest)
pair_cut c r rest a gap no_end is rest_after =
    let both = no_gap c gap in
    rw (no_end, both.1, both.0, is) (ap (with_attribute a) (skipped (length r - length rest) r ∙ ap cut_tag rest_after))

-- no '/' stands before '>'
unflagged : (b : Bool) (s : List ℕ) (c : ℕ) (r : List ℕ) (o : Option CutTag) → s ≡ c ∷ r → is_tag_end c ≡ false → with_slash (b && head_is is_tag_end s) o ≡ o
unflagged b s c r o e h = rw (e, h, and-false b) (no_slash o)

pub pair_is : (s : List ℕ) (from at : ℕ) (a : WrittenAttribute) → IsUtf8 s → IsCharBoundary s from → IsEndOf is_gap_byte s from at → at < length s → (get_or s at 0 ≡ 62 → ⊥) → IsAttributeAt s at a → IsPair s from at a
pair_is s from at a u b e h no_end is =
    let c = get_or s at 0 in
    let r = drop (at + 1) s in
    let cut : drop at s ≡ c ∷ r = rest_cons s at h in
    let stop : is_gap_byte c ≡ false = e.stops h in
    let no_gt : is_tag_end c ≡ false = no_end_byte c no_end in
    let low : at < a.name_to = is.forward in
    let middle : a.name_to ≤ a.value.after = is.after in
    let high : a.value.after ≤ length s = is.rest.0 in
    let long : length r - length (drop a.value.after s) ≡ a.value.after - (at + 1) = simp length-drop (omega arith) in
    let there : (at + 1) + (a.value.after - (at + 1)) ≡ a.value.after = omega arith in
    let rest_after : drop (length r - length (drop a.value.after s)) r ≡ drop a.value.after s =
    ap (λ n. drop n r) long ∙ drop-drop (a.value.after - (at + 1)) (at + 1) s ∙ ap (λ n. drop n s) there in
    record {
      cut = gap_cut s from at e
          ∙ unflagged (nat_lt from at && (get_or s (at - 1) 0 == 47)) (drop at s) c r (cut_tag (drop at s)) cut no_gt
          ∙ ap cut_tag cut
          ∙ pair_cut c r (drop a.value.after s) (written_in s at a) stop no_gt is.is rest_after;
      forward = e.forward;
      starts = gap_ends s from at u b e;
      is = is;
    }
