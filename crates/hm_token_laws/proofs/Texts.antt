-- Pieces of text that are read.
use Rattle.std.proofs.Common.{◌≡◌, ℕ, ◌+◌, ◌<◌, ◌≤◌, Bool, true, false, cond, not, ◌&&◌, ◌||◌, ◌==◌, List, [], ◌∷◌, ◌++◌, length, drop, Option, Some, None, is_some, encode_utf8_all, refl, ap, sym, subst, ◌∙◌, arith, length-append, append-nil}
use Rattle.std.proofs.lemmas.Bool.{and_parts}
use Rattle.std.proofs.lemmas.List.{drop_at}
use Rattle.hm_base.specs.Bytes.{is_null}
use Rattle.hm_refs.specs.Names.{Entry}
use Rattle.hm_refs.specs.References.{Reference, reference}
use Rattle.hm_scan.specs.Texts.{opens_markup, begins_markup, reference_in, ends_plain, plain_front, read_by, read_text}
use Rattle.hm_tree.specs.Tokens.{Seen, slice, points, taken}
use Rattle.hm_token_laws.specs.First.{Mode}
use Rattle.hm_token_laws.specs.Laws.{IsPlain, SoundNames, reads_references, IsWhole, IsText, IsReference, SoundToken, TakesBytes}
use Rattle.hm_token_laws.proofs.Plain.{plain_nothing, plain_before, plain_from, plain_after_all, no_zero_byte, no_return_byte}
use Rattle.hm_token_laws.proofs.References.{is_ascii, ascii_low, GoodReference, point_bytes}
use Rattle.hm_token_laws.proofs.TagParts.{equals_low}
use Rattle.hm_token_laws.proofs.Values.{at_amp}

-- ---- where a plain text ends

-- the text is cut at its end or before an ASCII byte
pub record PlainCut (front s : List ℕ) : Type 0 where
  pub tail : List ℕ
  pub is : s ≡ front ++ tail
  pub low : (d : ℕ) (ds : List ℕ) → tail ≡ d ∷ ds → d < 128

markup_low : (c : ℕ) (s : List ℕ) → begins_markup (c ∷ s) ≡ true → c < 128
unfolding begins_markup
markup_low c s h = equals_low c 60 (omega arith) (and_parts (c == 60) (opens_markup s) h).0

amp_low : (c : ℕ) (o : Option Reference) → is_some (cond (c == 38) o None) ≡ true → c < 128
amp_low c o h = by_test (c == 38) refl h
  where
    by_test : (b : Bool) → (c == 38) ≡ b → is_some (cond b o None) ≡ true → c < 128
    by_test true e h = equals_low c 38 (omega arith) e
    by_test false e h = absurd (cc)

end_low : (t : List Entry) (rcdata : Bool) (c : ℕ) (s : List ℕ) → ends_plain t rcdata c s ≡ true → c < 128
unfolding reference_in
end_low t rcdata c s h = by_tests (not rcdata) (begins_markup (c ∷ s)) refl h
  where
    by_tests : (a b : Bool) → begins_markup (c ∷ s) ≡ b → (a && b) || is_some (reference_in t c s) ≡ true → c < 128
    by_tests true true e h = markup_low c s e
    by_tests true false e h = amp_low c (reference t false (c ∷ s)) h
    by_tests false b e h = amp_low c (reference t false (c ∷ s)) h

pub plain_cut : (t : List Entry) (rcdata : Bool) (s : List ℕ) → PlainCut (plain_front t rcdata s) s
plain_cut t rcdata [] = record { tail = []; is = refl; low = λ d ds e. cc }
plain_cut t rcdata (c ∷ s) = by_test (ends_plain t rcdata c s) refl (plain_cut t rcdata s)
  where
    first : (d : ℕ) (ds : List ℕ) → c < 128 → c ∷ s ≡ d ∷ ds → d < 128
    first d ds low e = let same : c ≡ d = cc in omega arith

    by_test : (b : Bool) → ends_plain t rcdata c s ≡ b → PlainCut (plain_front t rcdata s) s → PlainCut (cond b [] (c ∷ plain_front t rcdata s)) (c ∷ s)
    by_test true e more = record { tail = c ∷ s; is = refl; low = λ d ds f. first d ds (end_low t rcdata c s e) f }
    by_test false e more = record { tail = more.tail; is = ap (λ x. c ∷ x) more.is; low = more.low }

-- ---- the parts

pub record TextParts (front s : List ℕ) : Type 0 where
  pub front_plain : IsPlain front
  pub after_plain : IsPlain (drop (length front) s)

pub text_parts : (front s : List ℕ) → PlainCut front s → IsPlain s → TextParts front s
text_parts front s k h = by_tail k.tail k.is k.low
  where
    by_tail : (x : List ℕ) → s ≡ front ++ x → ((d : ℕ) (ds : List ℕ) → x ≡ d ∷ ds → d < 128) → TextParts front s
    by_tail [] e low =
        let same : s ≡ front = e ∙ append-nil front in
        let rest : drop (length front) s ≡ [] = ap (drop (length front)) e ∙ drop_at front [] (length front) refl in
        record { front_plain = subst IsPlain same h; after_plain = rw rest plain_nothing }
    by_tail (d ∷ ds) e low =
        let rest : drop (length front) s ≡ d ∷ ds = ap (drop (length front)) e ∙ drop_at front (d ∷ ds) (length front) refl in
        let h' = subst IsPlain e h in
        record { front_plain = plain_before front ds d (low d ds refl) h'; after_plain = rw rest (plain_from front ds d (low d ds refl) h') }

-- ---- the piece that is read

-- a reference, or a plain text that isn't empty
pub data Piece (t : List Entry) (rcdata : Bool) (s : List ℕ) (token : Seen) (rest : List ℕ) : Type 0 where
  referred : (r : Reference) → GoodReference s r → points r.points ≡ token → drop r.len s ≡ rest → Piece t rcdata s token rest
  plain : is_null (plain_front t rcdata s) ≡ false → slice (plain_front t rcdata s) ≡ token → drop (length (plain_front t rcdata s)) s ≡ rest → Piece t rcdata s token rest

pub piece : (t : List Entry) (rcdata : Bool) (s : List ℕ) (token : Seen) (rest : List ℕ) → SoundNames t → is_null s ≡ false → not rcdata && begins_markup s ≡ false → read_text t rcdata s ≡ taken token rest
    → Piece t rcdata s token rest
unfolding read_text reference_in
piece t rcdata [] token rest names some none h = absurd (cc)
piece t rcdata (c ∷ s) token rest names some none h = by_reference (reference_in t c s) refl h
  where
    by_reference : (o : Option Reference) → reference_in t c s ≡ o → read_by o t rcdata (c ∷ s) ≡ taken token rest → Piece t rcdata (c ∷ s) token rest
    by_reference None e h =
        let here : is_null (plain_front t rcdata (c ∷ s)) ≡ false = rw (none, e) refl in
        let token_is : slice (plain_front t rcdata (c ∷ s)) ≡ token = cc in
        let rest_is : drop (length (plain_front t rcdata (c ∷ s))) (c ∷ s) ≡ rest = cc in
        plain here token_is rest_is
    by_reference (Some r) e h =
        let a = at_amp t false c s r names e in
        let token_is : points r.points ≡ token = cc in
        let rest_is : drop r.len (c ∷ s) ≡ rest = cc in
        referred r a.good token_is rest_is

pub piece_sound : (t : List Entry) (mode : Mode) (rcdata : Bool) (s : List ℕ) (token : Seen) (rest : List ℕ) → reads_references mode ≡ true → ((x : List ℕ) → is_null x ≡ false → IsWhole mode x)
    → IsPlain s → Piece t rcdata s token rest → SoundToken mode token × IsPlain rest
piece_sound t mode rcdata s token rest reads whole h (referred r good token_is rest_is) =
    let at : drop r.len s ≡ good.rest = ap (drop r.len) good.is ∙ drop_at good.written good.rest r.len (sym good.len) in
    let is : IsReference mode r.points = record { mode_reads = reads; scalars = good.scalars } in
    let after = plain_after_all is_ascii good.written good.rest ascii_low good.low (subst IsPlain good.is h) in
    (subst (SoundToken mode) token_is is, subst IsPlain (sym at ∙ rest_is) after)
piece_sound t mode rcdata s token rest reads whole h (plain some token_is rest_is) =
    let front = plain_front t rcdata s in
    let parts = text_parts front s (plain_cut t rcdata s) h in
    let is : IsText mode front = record { whole = whole front some; no_zero = no_zero_byte front parts.front_plain; no_return = no_return_byte front parts.front_plain; utf8 = parts.front_plain.utf8 } in
    (subst (SoundToken mode) token_is is, subst IsPlain rest_is parts.after_plain)

not_null_long : (x : List ℕ) → is_null x ≡ false → 1 ≤ length x
not_null_long [] h = absurd (cc)
not_null_long (c ∷ x) h = omega arith

pub piece_takes : (t : List Entry) (rcdata : Bool) (s : List ℕ) (token : Seen) (rest : List ℕ) → Piece t rcdata s token rest → TakesBytes s 0 token rest
piece_takes t rcdata s token rest (referred r good token_is rest_is) =
    let at : drop r.len s ≡ good.rest = ap (drop r.len) good.is ∙ drop_at good.written good.rest r.len (sym good.len) in
    let all : length s ≡ length good.written + length good.rest = ap length good.is ∙ length-append good.written good.rest in
    let long = good.long in
    let short : length (encode_utf8_all r.points) ≤ 8 = (point_bytes r.points good.scalars).short in
    let there : TakesBytes s 0 (points r.points) good.rest = record { count = length good.written; whole = omega arith; size = omega arith; least = omega arith } in
    subst (λ x. TakesBytes s 0 x rest) token_is (subst (λ x. TakesBytes s 0 (points r.points) x) (sym at ∙ rest_is) there)
piece_takes t rcdata s token rest (plain some token_is rest_is) =
    let front = plain_front t rcdata s in
    let k = plain_cut t rcdata s in
    let at : drop (length front) s ≡ k.tail = ap (drop (length front)) k.is ∙ drop_at front k.tail (length front) refl in
    let all : length s ≡ length front + length k.tail = ap length k.is ∙ length-append front k.tail in
    let long = not_null_long front some in
    let there : TakesBytes s 0 (slice front) k.tail = record { count = length front; whole = omega arith; size = omega arith; least = omega arith } in
    subst (λ x. TakesBytes s 0 x rest) token_is (subst (λ x. TakesBytes s 0 (slice front) x) (sym at ∙ rest_is) there)
