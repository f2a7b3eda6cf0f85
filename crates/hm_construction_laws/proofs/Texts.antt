-- Texts: what a step keeps of them stands before what is settled after it.
use Rattle.std.proofs.Common.{◌≡◌, ℕ, Bool, true, false, ◌||◌, List, [], ◌∷◌, ◌++◌, refl, sym, ◌∙◌, ap, Some, length}
use Rattle.std.proofs.lemmas.Bool.{both_ways, and_parts, and_from}
use Rattle.std.specs.Str.{is_utf8}
use Rattle.std.proofs.lemmas.Str.{IsUtf8-append, IsUtf8-from_is_utf8, is_utf8-from_IsUtf8}
use Rattle.hm_base.specs.Bytes.{is_space, is_null}
use Rattle.hm_base.specs.Forms.{has_byte, is_byte, is_blank}
use Rattle.hm_base.specs.Walks.{Event, start, text, end, comment, doctype, Element, text_before, pushes, begins_text}
use Rattle.hm_elements.specs.Names.{is_among}
use Rattle.hm_elements.specs.Tables.{is_raw, raw_names}
use Rattle.hm_elements.specs.Paths.{is_in_raw, is_in_blank, current}
use Rattle.hm_elements.specs.Settled.{end_tag, raw_text_end}
use Rattle.hm_elements.specs.Places.{TextAllowed, SettledInside, SettledBeforeBody, html_path}

-- ---- UTF-8, zero bytes and whitespace of texts that touch

pub joined_utf8 : (s t : List ℕ) → is_utf8 s ≡ true → is_utf8 t ≡ true → is_utf8 (s ++ t) ≡ true
joined_utf8 s t a b = is_utf8-from_IsUtf8 (s ++ t) (IsUtf8-append s t (IsUtf8-from_is_utf8 s a) (IsUtf8-from_is_utf8 t b))

pub joined_no_byte : (d : ℕ) (s t : List ℕ) → has_byte d s ≡ false → has_byte d t ≡ false → has_byte d (s ++ t) ≡ false
joined_no_byte d [] t a b = b
joined_no_byte d (c ∷ s) t a b = by (is_byte d c) a (λ h. joined_no_byte d s t h b)
  where
    by : (k : Bool) → k || has_byte d s ≡ false → (has_byte d s ≡ false → has_byte d (s ++ t) ≡ false) → k || has_byte d (s ++ t) ≡ false
    by true h more = cc
    by false h more = more h

pub joined_blank : (s t : List ℕ) → is_blank s ≡ true → is_blank t ≡ true → is_blank (s ++ t) ≡ true
joined_blank [] t a b = b
joined_blank (c ∷ s) t a b =
    let two = and_parts (is_space c) (is_blank s) a in
    and_from (is_space c) (is_blank (s ++ t)) two.0 (joined_blank s t two.1 b)

joined_not_null : (s t : List ℕ) → is_null s ≡ false → is_null (s ++ t) ≡ false
joined_not_null [] t a = cc
joined_not_null (c ∷ s) t a = refl

-- ---- A text first

-- what is true of a text that is kept
pub record Piece (path : List Element) (s : List ℕ) : Type 0 where
  pub not_empty : is_null s ≡ false
  pub no_zero : has_byte 0 s ≡ false
  pub blank : is_in_blank path ≡ true → is_blank s ≡ true
  pub utf8 : is_utf8 s ≡ true

joined_allowed : (path : List Element) (s t : List ℕ) (raw : Bool) (w : List Event) → is_in_raw path ≡ false → Piece path s → TextAllowed path t raw w → TextAllowed path (s ++ t) false w
joined_allowed path s t raw w no_raw piece a = record {
  not_empty = joined_not_null s t piece.not_empty;
  alone = a.alone;
  no_zero = joined_no_byte 0 s t piece.no_zero a.no_zero;
  kind = sym no_raw;
  blank = λ h. joined_blank s t (piece.blank h) (a.blank h);
  no_return = λ h. cc;
  ends = λ h. absurd (both_ways false refl h);
  utf8 = joined_utf8 s t piece.utf8 a.utf8;
}

alone_allowed : (path : List Element) (s : List ℕ) (w : List Event) → is_in_raw path ≡ false → begins_text w ≡ false → Piece path s → TextAllowed path s false w
alone_allowed path s w no_raw alone piece = record {
  not_empty = piece.not_empty;
  alone = alone;
  no_zero = piece.no_zero;
  kind = sym no_raw;
  blank = piece.blank;
  no_return = λ h. cc;
  ends = λ h. absurd (both_ways false refl h);
  utf8 = piece.utf8;
}

pub text_inside : (root : List ℕ) (after : List Event → Type 0) (path : List Element) (s : List ℕ) (w : List Event) → is_in_raw path ≡ false → Piece path s → SettledInside root after path w → SettledInside root after path (text_before s false w)
text_inside root after path s [] no_raw piece h = absurd h
text_inside root after path s (doctype legacy ∷ w) no_raw piece h = absurd h
text_inside root after path s (text t raw ∷ w) no_raw piece h = (joined_allowed path s t raw w no_raw piece h.0, h.1)
text_inside root after path s (start n foreign attributes ∷ w) no_raw piece h = (alone_allowed path s (start n foreign attributes ∷ w) no_raw refl piece, h)
text_inside root after path s (comment x ∷ w) no_raw piece h = (alone_allowed path s (comment x ∷ w) no_raw refl piece, h)
text_inside root after path s (end n foreign ∷ w) no_raw piece h = (alone_allowed path s (end n foreign ∷ w) no_raw refl piece, h)

pub text_before_body : (s : List ℕ) (w : List Event) → is_blank s ≡ true → Piece html_path s → SettledBeforeBody w → SettledBeforeBody (text_before s false w)
unfolding is_raw raw_names is_among
text_before_body s [] b piece h = absurd h
text_before_body s (doctype legacy ∷ w) b piece h = absurd h
text_before_body s (end n foreign ∷ w) b piece h = absurd h
text_before_body s (text t raw ∷ w) b piece h = (joined_allowed html_path s t raw w refl piece h.0, joined_blank s t b h.1, h.2)
text_before_body s (start n foreign attributes ∷ w) b piece h = (alone_allowed html_path s (start n foreign attributes ∷ w) refl refl piece, b, h)
text_before_body s (comment x ∷ w) b piece h = (alone_allowed html_path s (comment x ∷ w) refl refl piece, b, h)

-- a raw text stands alone
pub record RawPiece (path : List Element) (s : List ℕ) : Type 0 where
  pub raw : is_in_raw path ≡ true
  pub piece : Piece path s
  pub no_return : has_byte 13 s ≡ false
  pub ends : raw_text_end (current path) (s ++ end_tag (current path)) ≡ Some (length s)

pub raw_inside : (root : List ℕ) (after : List Event → Type 0) (path : List Element) (s : List ℕ) (w : List Event) → RawPiece path s → begins_text w ≡ false → SettledInside root after path w → SettledInside root after path (text_before s true w)
raw_inside root after path s w r alone h = by w alone h
  where
    allowed : (v : List Event) → begins_text v ≡ false → TextAllowed path s true v
    allowed v a = record { not_empty = r.piece.not_empty; alone = a; no_zero = r.piece.no_zero; kind = sym r.raw; blank = r.piece.blank; no_return = λ e. r.no_return; ends = λ e. r.ends; utf8 = r.piece.utf8 }

    by : (v : List Event) → begins_text v ≡ false → SettledInside root after path v → SettledInside root after path (text_before s true v)
    by [] a k = absurd k
    by (doctype legacy ∷ v) a k = absurd k
    by (text t raw ∷ v) a k = absurd (both_ways true a refl)
    by (start n foreign attributes ∷ v) a k = (allowed (start n foreign attributes ∷ v) a, k)
    by (comment x ∷ v) a k = (allowed (comment x ∷ v) a, k)
    by (end n foreign ∷ v) a k = (allowed (end n foreign ∷ v) a, k)

-- ---- Byte by byte

-- one event for each byte
abbrev pub texts : Bool → List ℕ → List Event
texts raw [] = []
texts raw (c ∷ s) = text (c ∷ []) raw ∷ texts raw s

two_before : (c d : ℕ) (s : List ℕ) (raw : Bool) (w : List Event) → text_before (c ∷ []) raw (text_before (d ∷ s) raw w) ≡ text_before (c ∷ d ∷ s) raw w
two_before c d s raw [] = refl
two_before c d s raw (doctype legacy ∷ w) = refl
two_before c d s raw (start n foreign attributes ∷ w) = refl
two_before c d s raw (text t r ∷ w) = refl
two_before c d s raw (comment x ∷ w) = refl
two_before c d s raw (end n foreign ∷ w) = refl

pub texts_join : (raw : Bool) (c : ℕ) (s : List ℕ) (w : List Event) → pushes (texts raw (c ∷ s)) w ≡ text_before (c ∷ s) raw w
texts_join raw c [] w = refl
texts_join raw c (d ∷ s) w = ap (text_before (c ∷ []) raw) (texts_join raw d s w) ∙ two_before c d s raw w
