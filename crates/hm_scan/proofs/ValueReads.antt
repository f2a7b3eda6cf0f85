-- Values as they are read, piece by piece.
use Rattle.std.proofs.Common.{◌≡◌, ℕ, zero, suc, pred, ◌+◌, ◌-◌, ◌<◌, ◌≤◌, Bool, true, false, ◌==◌, List, [], ◌∷◌, ◌++◌, length, take, drop, get_or, slice_range, Some, None, encode_utf8_all, refl, ap, ap₂, sym, subst, ◌∙◌, arith, append_assoc, append-nil, length-drop, take_all, drop_of_length-le}
use Rattle.std.proofs.lemmas.Bool.{false_from_ne_true}
use Rattle.std.specs.Str.{IsUtf8, IsCharBoundary}
use Rattle.std.proofs.lemmas.Str.{IsCharBoundary-after_ascii, IsCharBoundary-before_ascii, IsCharBoundary-start}
use Rattle.std.proofs.lemmas.List.{drop-drop, get_or-drop}
use Rattle.std.proofs.lemmas.Bool.Decides.{Decides-eqb}
use Rattle.memchr.specs.Find.{IsFirstByte, is_byte}
use Rattle.hm_refs.specs.Names.{Entry}
use Rattle.hm_refs.specs.References as refs
use Rattle.hm_refs.specs.Tables.{points_list}
use Rattle.hm_scan.specs.Values.{reference_at, value_from, read_value}
use Rattle.hm_scan.specs.Reads.{IsNext}
use Rattle.hm_refs.specs.Reads.{IsReadReference}
use Rattle.hm_refs.specs.declared.scan.Reference.{Reference}
use Rattle.hm_scan.proofs.TagParts.{split_at}
use Rattle.hm_refs.proofs.RunEnds.{range_more}
use Rattle.hm_scan.proofs.ValuePlaces.{take_none}
use Rattle.hm_refs.proofs.RunEnds.{rest_cons}

-- what stands between two places was skipped: it stands for itself
pub record IsPassed (t : List Entry) (s : List ℕ) (from at : ℕ) : Type 0 where
  pub forward : from ≤ at
  pub inside : at ≤ length s
  pub read : read_value t (drop from s) ≡ slice_range s from at ++ read_value t (drop at s)

-- up to a place the value was read
pub record IsReadTo (t : List Entry) (s value : List ℕ) (at : ℕ) : Type 0 where
  pub boundary : IsCharBoundary s at
  pub read : read_value t s ≡ value ++ read_value t (drop at s)

skipped : (t : List Entry) (k : ℕ) (s : List ℕ) → value_from t k s ≡ read_value t (drop k s)
skipped t zero s = refl
skipped t (suc k) [] = refl
skipped t (suc k) (c ∷ s) = skipped t k s

other_byte : (t : List Entry) (c : ℕ) (s : List ℕ) → (c == 38) ≡ false → read_value t (c ∷ s) ≡ c ∷ read_value t s
unfolding reference_at
other_byte t c s h = rw h refl

-- no '&' in the prefix
other_bytes : (t : List Entry) (s : List ℕ) (n : ℕ) → n ≤ length s → ((k : ℕ) → k < n → (get_or s k 0 == 38) ≡ false) → read_value t s ≡ take n s ++ read_value t (drop n s)
other_bytes t s zero h none = refl
other_bytes t [] (suc n) h none = absurd (omega arith)
other_bytes t (c ∷ s) (suc n) h none =
    other_byte t c s (none 0 (omega arith)) ∙ ap (λ r. c ∷ r) (other_bytes t s n (omega arith) (λ k l. none (suc k) (omega arith)))

take_split : (n m k : ℕ) (s : List ℕ) → k ≡ n + m → take k s ≡ take n s ++ take m (drop n s)
take_split zero m k s e = ap (λ i. take i s) (omega arith)
take_split (suc n) m zero s e = absurd (omega arith)
take_split (suc n) m (suc k) [] e = sym (take_none m)
take_split (suc n) m (suc k) (c ∷ s) e = ap (λ r. c ∷ r) (take_split n m k s (omega arith))

range_join : (s : List ℕ) (a b c : ℕ) → a ≤ b → b ≤ c → slice_range s a c ≡ slice_range s a b ++ slice_range s b c
range_join s a b c low high =
    let there : a + (b - a) ≡ b = omega arith in
    take_split (b - a) (c - b) (c - a) (drop a s) (omega arith)
    ∙ ap (λ r. slice_range s a b ++ take (c - b) r) (drop-drop (b - a) a s ∙ ap (λ n. drop n s) there)

-- where a search found the next '&'
pub passed_amp : (t : List Entry) (s : List ℕ) (from at len : ℕ) → IsPassed t s from at → IsFirstByte (is_byte 38) (drop at s) (Some len) → IsPassed t s from (at + len)
passed_amp t s from at len p (none, here) =
    let low : from ≤ at = p.forward in
    let long : length (drop at s) ≡ length s - at = length-drop at s in
    let short : len < length (drop at s) = none.high in
    let read : read_value t (drop at s) ≡ take len (drop at s) ++ read_value t (drop len (drop at s)) =
    other_bytes t (drop at s) len (omega arith) (λ k l. false_from_ne_true (get_or (drop at s) k 0 == 38) (none.before k (omega arith) l)) in
    let same : slice_range s at (at + len) ≡ take len (drop at s) = let n : at + len - at ≡ len = omega arith in ap (λ m. take m (drop at s)) n in
    record {
      forward = omega arith;
      inside = omega arith;
      read = p.read ∙ ap (λ r. slice_range s from at ++ r) (read ∙ ap₂ (λ x y. x ++ read_value t y) (sym same) (drop-drop len at s))
          ∙ sym (append_assoc (slice_range s from at) (slice_range s at (at + len)) (read_value t (drop (at + len) s)))
          ∙ ap (λ r. r ++ read_value t (drop (at + len) s)) (sym (range_join s from at (at + len) low (omega arith)));
    }

pub amp_byte : (s : List ℕ) (at len : ℕ) → IsFirstByte (is_byte 38) (drop at s) (Some len) → get_or s (at + len) 0 ≡ 38
amp_byte s at len (none, here) = sym (get_or-drop at s len 0) ∙ (Decides-eqb (get_or (drop at s) len 0) 38).0 here

pub amp_inside : (s : List ℕ) (at len : ℕ) → IsFirstByte (is_byte 38) (drop at s) (Some len) → at + len < length s
amp_inside s at len (none, here) =
    let long : length (drop at s) ≡ length s - at = length-drop at s in
    let short : len < length (drop at s) = none.high in
    omega arith

-- no reference begins there
pub passed_more : (t : List Entry) (s : List ℕ) (from amp : ℕ) → IsPassed t s from amp → amp < length s → get_or s amp 0 ≡ 38 → refs.reference t true (drop amp s) ≡ None → IsPassed t s from (amp + 1)
unfolding reference_at
passed_more t s from amp p h is none =
    let low : from ≤ amp = p.forward in
    let cut : drop amp s ≡ 38 ∷ drop (amp + 1) s = rest_cons s amp h ∙ ap (λ c. c ∷ drop (amp + 1) s) is in
    let missed : refs.reference t true (38 ∷ drop (amp + 1) s) ≡ None = ap (refs.reference t true) (sym cut) ∙ none in
    let read : read_value t (drop amp s) ≡ 38 ∷ read_value t (drop (amp + 1) s) = ap (read_value t) cut ∙ rw missed refl in
    record {
      forward = omega arith;
      inside = omega arith;
      read = p.read ∙ ap (λ r. slice_range s from amp ++ r) read
          ∙ sym (append_assoc (slice_range s from amp) (38 ∷ []) (read_value t (drop (amp + 1) s)))
          ∙ ap (λ r. r ++ read_value t (drop (amp + 1) s)) (sym (range_more s from amp low h ∙ ap (λ c. slice_range s from amp ++ c ∷ []) is));
    }

after_pred : (n : ℕ) → 0 < n → suc (pred n) ≡ n
after_pred zero h = absurd (omega arith)
after_pred (suc n) h = refl

-- a reference begins there
pub next_is : (t : List Entry) (s : List ℕ) (from amp : ℕ) (r : Reference) → IsUtf8 s → IsPassed t s from amp → amp < length s → get_or s amp 0 ≡ 38 → IsReadReference (refs.reference t true (drop amp s)) (drop amp s) r
    → IsNext t s from (record { at = amp; reference = r })
unfolding reference_at
next_is t s from amp r u p h is found =
    let cut : drop amp s ≡ 38 ∷ drop (amp + 1) s = rest_cons s amp h ∙ ap (λ c. c ∷ drop (amp + 1) s) is in
    let there : refs.reference t true (38 ∷ drop (amp + 1) s) ≡ Some (record { points = points_list r.points; len = r.len }) = ap (refs.reference t true) (sym cut) ∙ found.is in
    let some : 0 < r.len = found.some in
    let long : length (drop amp s) ≡ length s - amp = length-drop amp s in
    let short : r.len ≤ length (drop amp s) = found.inside in
    let after : drop (pred r.len) (drop (amp + 1) s) ≡ drop (amp + r.len) s = let one : suc (pred r.len) ≡ r.len = after_pred r.len some in drop-drop (pred r.len) (amp + 1) s ∙ ap (λ n. drop n s) (omega arith) in
    let last : get_or (drop amp s) (r.len - 1) 0 ≡ get_or s (amp + r.len - 1) 0 = get_or-drop amp s (r.len - 1) 0 ∙ ap (λ n. get_or s n 0) (omega arith) in
    record {
      read = p.read ∙ ap (λ x. slice_range s from amp ++ x) (ap (read_value t) cut ∙ rw there (ap (λ x. encode_utf8_all (points_list r.points) ++ x) (skipped t (pred r.len) (drop (amp + 1) s) ∙ ap (read_value t) after)));
      forward = p.forward;
      some = some;
      starts = IsCharBoundary-before_ascii s amp h (omega arith);
      ends = let next : amp + r.len - 1 + 1 ≡ amp + r.len = omega arith in
          subst (λ n. IsCharBoundary s n) next (IsCharBoundary-after_ascii s (amp + r.len - 1) u (omega arith) (subst (λ c. c < 128) last found.ascii));
    }

-- no '&' is left
pub passed_all : (t : List Entry) (s : List ℕ) (from at : ℕ) → IsPassed t s from at → IsFirstByte (is_byte 38) (drop at s) None → read_value t (drop from s) ≡ drop from s
passed_all t s from at p none =
    let rest = drop at s in
    let read : read_value t rest ≡ take (length rest) rest ++ read_value t (drop (length rest) rest) =
    other_bytes t rest (length rest) (omega arith) (λ k l. false_from_ne_true (get_or rest k 0 == 38) (none k (omega arith) l)) in
    let whole : take (length rest) rest ++ read_value t (drop (length rest) rest) ≡ rest =
    ap₂ (λ x y. x ++ read_value t y) (take_all (length rest) rest (omega arith)) (drop_of_length-le rest (omega arith)) ∙ append-nil rest in
    p.read ∙ ap (λ r. slice_range s from at ++ r) (read ∙ whole) ∙ sym (split_at s from at p.forward)

pub read_none : (t : List Entry) (s : List ℕ) → IsUtf8 s → IsReadTo t s [] 0
read_none t s u = record { boundary = IsCharBoundary-start s u; read = refl }
