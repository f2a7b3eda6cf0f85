-- Values by their places in the text.
use Rattle.std.proofs.Common.{◌≡◌, ℕ, zero, suc, ◌+◌, ◌-◌, ◌<◌, ◌≤◌, Bool, true, false, not, ◌==◌, List, [], ◌∷◌, length, take, drop, get_or, slice_range, Some, None, refl, ap, ap₂, sym, subst, ◌∙◌, arith, drop_of_length-le, length-drop, take_all}
use Rattle.std.specs.Str.{IsUtf8, IsCharBoundary}
use Rattle.std.proofs.lemmas.Str.{IsCharBoundary-after_ascii, IsCharBoundary-before_ascii, IsCharBoundary-end}
use Rattle.std.proofs.lemmas.List.{drop-drop, get_or-drop}
use Rattle.std.proofs.lemmas.Bool.Decides.{Decides-eqb}
use Rattle.memchr.specs.Find.{IsFirstByte, Nowhere, Passes, is_byte}
use Rattle.hm_refs.specs.Names.{Entry}
use Rattle.hm_scan.specs.Values.{reference_at, read_value}
use Rattle.hm_base.specs.Bytes.{front, rest_after, is_space}
use Rattle.hm_scan.specs.Tags.{is_later_byte, is_unquoted_byte, is_inside, is_quote, cut_after, cut_quoted, cut_value, cut_assigned, named, attribute_at}
use Rattle.hm_refs.specs.Reads.{IsEndOf}
use Rattle.hm_refs.proofs.RunEnds.{rest_cons}
use Rattle.hm_scan.specs.TagPlaces.{IsCutAt, IsAttributeAt, IsOrdinaryName}
use Rattle.hm_scan.specs.declared.attribute.WrittenAttribute.{WrittenAttribute}
use Rattle.hm_scan.specs.declared.attribute.Value.{Value}
use Rattle.hm_scan.proofs.Boundaries.{later_ends, unquoted_ends}

-- the prefix up to the first byte that doesn't pass
front_first : (p : ℕ → Bool) (s : List ℕ) (n : ℕ) → n < length s → ((k : ℕ) → k < n → p (get_or s k 0) ≡ true) → p (get_or s n 0) ≡ false
    → (front p s ≡ take n s) × (rest_after p s ≡ drop n s)
front_first p [] n h all stop = absurd (omega arith)
front_first p (c ∷ s) zero h all stop = rw stop (refl, refl)
front_first p (c ∷ s) (suc n) h all stop =
    let first : p c ≡ true = all 0 (omega arith) in
    let more = front_first p s n (omega arith) (λ k l. all (suc k) (omega arith)) stop in
    rw first (ap (λ r. c ∷ r) more.0, more.1)

front_whole : (p : ℕ → Bool) (s : List ℕ) → ((k : ℕ) → k < length s → p (get_or s k 0) ≡ true) → (front p s ≡ s) × (rest_after p s ≡ [])
front_whole p [] all = (refl, refl)
front_whole p (c ∷ s) all =
    let first : p c ≡ true = all 0 (omega arith) in
    let more = front_whole p s (λ k l. all (suc k) (omega arith)) in
    rw first (ap (λ r. c ∷ r) more.0, more.1)

pub rest_all : (s : List ℕ) (n : ℕ) → take (length s - n) (drop n s) ≡ drop n s
rest_all s n = grind (arith, take_all, length-drop)

pub quote_ascii : (q : ℕ) → is_quote q ≡ true → q < 128
unfolding is_quote
quote_ascii q h = grind arith

-- what a search for a quote says of the bytes
inside_if : (q c : ℕ) → (is_byte q c ≡ true → ⊥) → is_inside q c ≡ true
unfolding is_inside
inside_if q c never = elim (c == q) as (λ b. (c == q) ≡ b → not b ≡ true) [ true ↦ λ e. absurd (never e) | false ↦ λ e. refl ] refl

outside_if : (q c : ℕ) → is_byte q c ≡ true → is_inside q c ≡ false
unfolding is_inside
outside_if q c h = rw h refl

-- a value without '&' is read as it is written
plain_front : (t : List Entry) (s : List ℕ) (n : ℕ) → ((k : ℕ) → k < n → is_byte 38 (get_or s k 0) ≡ true → ⊥) → read_value t (take n s) ≡ take n s
unfolding reference_at
plain_front t s zero none = refl
plain_front t [] (suc n) none = refl
plain_front t (c ∷ s) (suc n) none =
    let other : (c == 38) ≡ false = not_true (c == 38) (none 0 (omega arith)) in
    rw other (ap (λ r. c ∷ r) (plain_front t s n (λ k l. none (suc k) (omega arith))))
  where
    not_true : (b : Bool) → (b ≡ true → ⊥) → b ≡ false
    not_true true h = absurd (h refl)
    not_true false h = refl

pub quoted_found : (s : List ℕ) (q from n : ℕ) (plain : Bool) → IsUtf8 s → is_quote q ≡ true → IsCharBoundary s from → IsFirstByte (is_byte q) (drop from s) (Some n)
    → (plain ≡ true → Nowhere (Passes (is_byte 38) (drop from s)) 0 n)
    → IsCutAt (cut_quoted q (drop from s)) s (record { from = from; to = from + n; after = from + n + 1; plain = plain })
quoted_found s q from n plain u is_q b (none, there) no_amp =
    let rest = drop from s in
    let inside : n < length s - from = subst (λ m. n < m) (length-drop from s) none.high in
    let both = front_first (is_inside q) rest n none.high (λ k l. inside_if q (get_or rest k 0) (none.before k (omega arith) l)) (outside_if q (get_or rest n 0) there) in
    let byte : get_or s (from + n) 0 ≡ q = sym (get_or-drop from s n 0) ∙ (Decides-eqb (get_or rest n 0) q).0 there in
    let ascii : get_or s (from + n) 0 < 128 = rw byte (quote_ascii q is_q) in
    let long : from + n - from ≡ n = omega arith in
    record {
      before = both.0 ∙ ap (λ m. take m rest) (sym long);
      after = ap (drop 1) both.1 ∙ ap (drop 1) (drop-drop n from s) ∙ drop-drop 1 (from + n) s;
      ordered = omega arith;
      forward = omega arith;
      starts = b;
      ends = IsCharBoundary-before_ascii s (from + n) (omega arith) ascii;
      rest = IsCharBoundary-after_ascii s (from + n) u (omega arith) ascii;
      plain = λ e t. subst (λ m. read_value t (take m rest) ≡ take m rest) (sym long) (plain_front t rest n (λ k l. no_amp e k (omega arith) l));
    }

pub quoted_missing : (s : List ℕ) (q from : ℕ) → IsCharBoundary s from → IsFirstByte (is_byte q) (drop from s) None
    → IsCutAt (cut_quoted q (drop from s)) s (record { from = from; to = length s; after = length s; plain = false })
quoted_missing s q from b none =
    let rest = drop from s in
    let both = front_whole (is_inside q) rest (λ k l. inside_if q (get_or rest k 0) (none k (omega arith) l)) in
    record {
      before = both.0 ∙ sym (rest_all s from);
      after = ap (drop 1) both.1 ∙ sym (drop_of_length-le s (omega arith));
      ordered = b.0;
      forward = omega arith;
      starts = b;
      ends = IsCharBoundary-end s;
      rest = IsCharBoundary-end s;
      plain = λ e. absurd (cc);
    }

pub take_none : (n : ℕ) → take {A = ℕ} n [] ≡ []
take_none zero = refl
take_none (suc n) = refl

-- what begins with no quote
pub unquoted_at : (s : List ℕ) (from to : ℕ) → IsCharBoundary s from → from < length s → is_quote (get_or s from 0) ≡ false → IsEndOf is_unquoted_byte s from to
    → IsCutAt (cut_value (drop from s)) s (record { from = from; to = to; after = to; plain = false })
unquoted_at s from to b h none e =
    let cut : cut_value (drop from s) ≡ cut_after is_unquoted_byte (drop from s) = rw (rest_cons s from h) (rw none refl) in
    let ends = unquoted_ends s from to e in
    record {
      before = ap (λ k. k.before) cut ∙ e.front;
      after = ap (λ k. k.after) cut ∙ e.after;
      ordered = e.forward;
      forward = omega arith;
      starts = b;
      ends = ends;
      rest = ends;
      plain = λ e. absurd (cc);
    }

pub quoted_at : (s : List ℕ) (from : ℕ) (v : Value) → from < length s → is_quote (get_or s from 0) ≡ true → IsCutAt (cut_quoted (get_or s from 0) (drop (from + 1) s)) s v → IsCutAt (cut_value (drop from s)) s v
quoted_at s from v h is_q e =
    let cut : cut_value (drop from s) ≡ cut_quoted (get_or s from 0) (drop (from + 1) s) = rw (rest_cons s from h) (rw is_q refl) in
    rw cut e

-- a value after '=' and whitespace
pub assigned_at : (s : List ℕ) (from equals at : ℕ) (v : Value) → IsEndOf is_space s from equals → equals < length s → get_or s equals 0 ≡ 61 → IsEndOf is_space s (equals + 1) at
    → IsCutAt (cut_value (drop at s)) s v → IsCutAt (cut_assigned (drop from s) (rest_after is_space (drop from s))) s v
assigned_at s from equals at v e h is f k =
    let same : (get_or s equals 0 == 61) ≡ true = (Decides-eqb (get_or s equals 0) 61).1 is in
    let cut : cut_assigned (drop from s) (rest_after is_space (drop from s)) ≡ cut_value (drop at s) =
    ap (cut_assigned (drop from s)) (e.after ∙ rest_cons s equals h) ∙ rw same (ap cut_value f.after) in
    rw cut k

-- a part of a list by its first byte and the others
pub range_cons : (s : List ℕ) (at to : ℕ) → at < length s → at + 1 ≤ to → slice_range s at to ≡ get_or s at 0 ∷ slice_range s (at + 1) to
range_cons s at to h low =
    let n : to - at ≡ suc (to - (at + 1)) = omega arith in
    ap (λ m. take m (drop at s)) n ∙ ap (take (suc (to - (at + 1)))) (rest_cons s at h)

-- a whole attribute
pub attribute_is : (s : List ℕ) (at : ℕ) (a : WrittenAttribute) → at < length s → IsEndOf is_later_byte s (at + 1) a.name_to
    → (a.plain ≡ true → IsOrdinaryName (slice_range s at a.name_to))
    → IsCutAt (cut_assigned (drop a.name_to s) (rest_after is_space (drop a.name_to s))) s a.value → a.name_to ≤ a.value.after → IsAttributeAt s at a
unfolding attribute_at
attribute_is s at a h e plain k forward =
    let name : slice_range s at a.name_to ≡ get_or s at 0 ∷ slice_range s (at + 1) a.name_to = range_cons s at a.name_to h (omega (arith, e.forward)) in
    record {
      is = ap₂ named (ap (λ r. get_or s at 0 ∷ r) e.front ∙ sym name) e.after
          ∙ ap₂ (λ v r. record { attribute = record { name = slice_range s at a.name_to; value = v }; rest = r }) k.before k.after;
      plain = plain;
      plain_value = k.plain;
      forward = omega (arith, e.forward);
      after = forward;
      ordered = k.ordered;
      name_ends = later_ends s (at + 1) a.name_to e;
      value_starts = k.starts;
      value_ends = k.ends;
      rest = k.rest;
    }
