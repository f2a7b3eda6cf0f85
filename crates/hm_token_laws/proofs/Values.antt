-- Values of attributes as they are read: UTF-8 without zero byte, and at most three times as long as they are written.
use Rattle.std.proofs.Common.{◌≡◌, ℕ, zero, suc, pred, ◌+◌, ◌*◌, ◌≤◌, Bool, true, false, cond, ◌==◌, List, [], ◌∷◌, ◌++◌, length, drop, Option, Some, None, encode_utf8_all, refl, ap, sym, subst, ◌∙◌, arith, append_assoc, length-append}
use Rattle.std.specs.Str.{IsAscii, is_utf8}
use Rattle.std.proofs.lemmas.Bool.{and_parts, eqb-true, or_from}
use Rattle.std.proofs.lemmas.List.{drop_at}
use Rattle.std.proofs.lemmas.Str.{IsUtf8-from_ascii, is_utf8-from_IsUtf8}
use Rattle.hm_base.specs.Bytes.{all_pass}
use Rattle.hm_base.specs.Forms.{has_byte}
use Rattle.hm_refs.specs.Names.{Entry}
use Rattle.hm_refs.specs.References.{Reference, reference}
use Rattle.hm_scan.specs.Values.{reference_at, read_on, value_from, read_value}
use Rattle.hm_token_laws.specs.Laws.{SoundNames}
use Rattle.hm_token_laws.proofs.Bools.{or_parts}
use Rattle.hm_token_laws.proofs.Plain.{utf8_both, utf8_before, utf8_from, utf8_after}
use Rattle.hm_token_laws.proofs.References.{is_ascii, ascii_low, GoodReference, reference_good, point_bytes, no_byte_both}

ascii_each : (s : List ℕ) → all_pass is_ascii s ≡ true → IsAscii s
ascii_each [] h i = omega arith
ascii_each (c ∷ s) h zero = ascii_low c (and_parts (is_ascii c) (all_pass is_ascii s) h).0
ascii_each (c ∷ s) h (suc i) = ascii_each s (and_parts (is_ascii c) (all_pass is_ascii s) h).1 i

pub ascii_utf8 : (s : List ℕ) → all_pass is_ascii s ≡ true → is_utf8 s ≡ true
ascii_utf8 s h = is_utf8-from_IsUtf8 s (IsUtf8-from_ascii s (ascii_each s h))

pub utf8_after_ascii : (xs ys : List ℕ) → all_pass is_ascii xs ≡ true → is_utf8 (xs ++ ys) ≡ true → is_utf8 ys ≡ true
utf8_after_ascii [] ys a h = h
utf8_after_ascii (x ∷ xs) ys a h =
    let both = and_parts (is_ascii x) (all_pass is_ascii xs) a in
    utf8_after_ascii xs ys both.1 (utf8_after (xs ++ ys) x (ascii_low x both.0) h)

-- a reference where '&' stands
pub record AtAmp (c : ℕ) (s : List ℕ) (r : Reference) : Type 0 where
  pub amp : c ≡ 38
  pub good : GoodReference (c ∷ s) r

pub at_amp : (t : List Entry) (value : Bool) (c : ℕ) (s : List ℕ) (r : Reference) → SoundNames t → cond (c == 38) (reference t value (c ∷ s)) None ≡ Some r → AtAmp c s r
at_amp t value c s r names h = by_test (c == 38) refl h
  where
    by_test : (b : Bool) → (c == 38) ≡ b → cond b (reference t value (c ∷ s)) None ≡ Some r → AtAmp c s r
    by_test true e k =
        let same : c ≡ 38 = eqb-true c 38 e in
        record { amp = same; good = subst (λ d. GoodReference (d ∷ s) r) (sym same) (reference_good t value s r names (rw same at k)) }
    by_test false e k = absurd (cc)

-- what follows its first byte
pub after_reference : (c : ℕ) (s : List ℕ) (r : Reference) (g : GoodReference (c ∷ s) r) → drop (pred r.len) s ≡ g.rest
after_reference c s r g = by_written g.written g.is g.len g.long
  where
    by_written : (w : List ℕ) → c ∷ s ≡ w ++ g.rest → r.len ≡ length w → 3 ≤ length w → drop (pred r.len) s ≡ g.rest
    by_written [] e n long = absurd (omega arith)
    by_written (x ∷ xs) e n long =
        let tail : s ≡ xs ++ g.rest = ap (drop 1) e in
        let at : pred r.len ≡ length xs = ap pred n in
        rw (at, tail) (drop_at xs g.rest (length xs) refl)

-- ---- values; the first k bytes are skipped

value_utf8 : (t : List Entry) → SoundNames t → (k : ℕ) (s p : List ℕ) → is_utf8 (p ++ drop k s) ≡ true → is_utf8 (p ++ value_from t k s) ≡ true
unfolding reference_at
value_utf8 t names zero [] p h = h
value_utf8 t names (suc k) [] p h = h
value_utf8 t names (suc k) (c ∷ s) p h = value_utf8 t names k s p h
value_utf8 t names zero (c ∷ s) p h = by_reference (reference_at t c s) refl (λ k q i. value_utf8 t names k s q i)
  where
    by_reference : (o : Option Reference) → reference_at t c s ≡ o → ((k : ℕ) (q : List ℕ) → is_utf8 (q ++ drop k s) ≡ true → is_utf8 (q ++ value_from t k s) ≡ true)
        → is_utf8 (p ++ read_on o c (λ k. value_from t k s)) ≡ true
    by_reference None e more =
        subst (λ x. is_utf8 x ≡ true) (append_assoc p (c ∷ []) (value_from t 0 s)) (more 0 (p ++ c ∷ []) (subst (λ x. is_utf8 x ≡ true) (sym (append_assoc p (c ∷ []) s)) h))
    by_reference (Some r) e more =
        let a = at_amp t true c s r names e in
        let amp = a.amp in
        let front = utf8_before p s c (omega arith) h in
        let whole : is_utf8 (a.good.written ++ a.good.rest) ≡ true = subst (λ x. is_utf8 x ≡ true) a.good.is (utf8_from p s c (omega arith) h) in
        let rest : is_utf8 (drop (pred r.len) s) ≡ true = rw (after_reference c s r a.good) (utf8_after_ascii a.good.written a.good.rest a.good.low whole) in
        utf8_both p _ front (utf8_both (encode_utf8_all r.points) _ (point_bytes r.points a.good.scalars).utf8 (more (pred r.len) [] rest))

value_no_zero : (t : List Entry) → SoundNames t → (k : ℕ) (s : List ℕ) → has_byte 0 s ≡ false → has_byte 0 (value_from t k s) ≡ false
unfolding reference_at
value_no_zero t names zero [] h = refl
value_no_zero t names (suc k) [] h = refl
value_no_zero t names (suc k) (c ∷ s) h = value_no_zero t names k s (or_parts (c == 0) (has_byte 0 s) h).1
value_no_zero t names zero (c ∷ s) h = by_reference (reference_at t c s) refl (λ k. value_no_zero t names k s (or_parts (c == 0) (has_byte 0 s) h).1)
  where
    by_reference : (o : Option Reference) → reference_at t c s ≡ o → ((k : ℕ) → has_byte 0 (value_from t k s) ≡ false) → has_byte 0 (read_on o c (λ k. value_from t k s)) ≡ false
    by_reference None e more = or_from (c == 0) (has_byte 0 (value_from t 0 s)) (or_parts (c == 0) (has_byte 0 s) h).0 (more 0)
    by_reference (Some r) e more =
        let a = at_amp t true c s r names e in
        no_byte_both 0 (encode_utf8_all r.points) (value_from t (pred r.len) s) (point_bytes r.points a.good.scalars).no_zero (more (pred r.len))

value_size : (t : List Entry) → SoundNames t → (k : ℕ) (s : List ℕ) → length (value_from t k s) ≤ 3 * length (drop k s)
unfolding reference_at
value_size t names zero [] = omega arith
value_size t names (suc k) [] = omega arith
value_size t names (suc k) (c ∷ s) = value_size t names k s
value_size t names zero (c ∷ s) = by_reference (reference_at t c s) refl (λ k. value_size t names k s)
  where
    by_reference : (o : Option Reference) → reference_at t c s ≡ o → ((k : ℕ) → length (value_from t k s) ≤ 3 * length (drop k s)) → length (read_on o c (λ k. value_from t k s)) ≤ 3 * length (c ∷ s)
    by_reference None e more = let rest = more 0 in omega arith
    by_reference (Some r) e more =
        let a = at_amp t true c s r names e in
        let rest : length (value_from t (pred r.len) s) ≤ 3 * length a.good.rest = subst (λ x. length (value_from t (pred r.len) s) ≤ 3 * length x) (after_reference c s r a.good) (more (pred r.len)) in
        let long = a.good.long in
        let whole : length (c ∷ s) ≡ length a.good.written + length a.good.rest = ap length a.good.is ∙ length-append a.good.written a.good.rest in
        let points : length (encode_utf8_all r.points) ≤ 8 = (point_bytes r.points a.good.scalars).short in
        simp length-append (omega arith)

pub read_value_utf8 : (t : List Entry) (s : List ℕ) → SoundNames t → is_utf8 s ≡ true → is_utf8 (read_value t s) ≡ true
read_value_utf8 t s names h = value_utf8 t names 0 s [] h

pub read_value_no_zero : (t : List Entry) (s : List ℕ) → SoundNames t → has_byte 0 s ≡ false → has_byte 0 (read_value t s) ≡ false
read_value_no_zero t s names h = value_no_zero t names 0 s h

pub read_value_size : (t : List Entry) (s : List ℕ) → SoundNames t → length (read_value t s) ≤ 3 * length s
read_value_size t s names = value_size t names 0 s
