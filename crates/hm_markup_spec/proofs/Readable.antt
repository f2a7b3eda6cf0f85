-- What is written by strict rules can be read: what stands apart may touch, and values carry over from one relation to
-- another, larger one.
use Rattle.std.proofs.Common.{◌≡◌, ℕ, suc, Bool, true, false, ◌&&◌, ◌||◌, ◌==◌, List, [], ◌∷◌, ◌++◌, Contains, refl, arith, append_assoc}
use Rattle.std.proofs.lemmas.Bool.{and_parts}
use Rattle.hm_base.specs.Bytes.{head_is, is_space}
use Rattle.hm_base.specs.Forms.{is_blank}
use Rattle.hm_base.specs.Walks.{Attribute}
use Rattle.hm_markup_spec.specs.Gaps.{is_gap}
use Rattle.hm_markup_spec.specs.Doctypes.{IsPlainDoctype, IsLegacyDoctype, WritesDoctype}
use Rattle.hm_markup_spec.specs.Tags.{Quoting, bare, unquoted, double, single, Writes, parts_attributes, parts_slash, WritesAttributes, tag_end, WritesStart}
use Rattle.hm_markup_spec.proofs.Gaps.{gap_blank, gap_front, gap_serves}

-- whitespace or '>'
abbrev pub ends_value : ℕ → Bool
ends_value c = is_space c || c == 62

-- what is known of the bytes that follow a value of this form in a tag
abbrev pub MayFollowValue : Quoting → List ℕ → Type 0
MayFollowValue bare after = Unit {0}
MayFollowValue unquoted after = head_is ends_value after ≡ true
MayFollowValue double after = Unit {0}
MayFollowValue single after = Unit {0}

-- In a tag, a value of these attributes that is written by the first relation is written by the second too.
abbrev pub ValuesCarry : Writes → Writes → List Attribute → Type 0
ValuesCarry writes reads attributes = (form : Quoting) (a : Attribute) (b after : List ℕ) → Contains attributes a → MayFollowValue form after → writes form a.value b after → reads form a.value b after

space_ends : (s : List ℕ) → head_is is_space s ≡ true → head_is ends_value s ≡ true
space_ends [] h = absurd (cc)
space_ends (c ∷ s) h = rw h refl

-- whitespace where the next attribute needs it
gap_after : (touching : Bool) (form : Quoting) (gap s : List ℕ) → is_gap (parts_attributes touching form) gap ≡ true → MayFollowValue form (gap ++ s)
gap_after touching bare gap s h = tt
gap_after touching unquoted gap s h = space_ends (gap ++ s) (gap_front gap s h)
gap_after touching double gap s h = tt
gap_after touching single gap s h = tt

closing_ends : (slash : Bool) (gap after : List ℕ) → is_gap (slash && true) gap ≡ true → head_is ends_value (gap ++ (tag_end slash ++ after)) ≡ true
closing_ends true gap after h = space_ends (gap ++ (tag_end true ++ after)) (gap_front gap (tag_end true ++ after) h)
closing_ends false [] after h = unfold is_space in refl
closing_ends false (c ∷ gap) after h = space_ends (c ∷ gap ++ (tag_end false ++ after)) (and_parts (is_space c) (is_blank gap) (gap_blank false (c ∷ gap) h)).0

-- what follows the last attribute
pub closing_after : (form : Quoting) (slash : Bool) (gap after : List ℕ) → is_gap (slash && parts_slash form) gap ≡ true → MayFollowValue form (gap ++ (tag_end slash ++ after))
closing_after bare slash gap after h = tt
closing_after unquoted slash gap after h = closing_ends slash gap after h
closing_after double slash gap after h = tt
closing_after single slash gap after h = tt

-- what follows the form before attributes
pub attributes_after : (writes : Writes) (touching : Bool) (before last : Quoting) (attributes : List Attribute) (b after : List ℕ)
    → WritesAttributes writes touching before last attributes b after → MayFollowValue last after → MayFollowValue before (b ++ after)
attributes_after writes touching before last [] b after w follows = rw (w.1, ← w.0) follows
attributes_after writes touching before last (a ∷ attributes) b after (form, piece, rest, is, w, ws) follows =
    let cut : b ++ after ≡ w.gap ++ ((w.name ++ w.value) ++ (rest ++ after)) = rw (is, w.is) (simp append_assoc) in
    rw cut (gap_after touching before w.gap ((w.name ++ w.value) ++ (rest ++ after)) w.apart)

-- where attributes may touch, less whitespace is needed
less_apart : (touching : Bool) (form : Quoting) → parts_attributes true form ≡ true → parts_attributes touching form ≡ true
less_apart touching bare h = refl
less_apart touching unquoted h = refl
less_apart touching double h = absurd (cc)
less_apart touching single h = absurd (cc)

pub attributes_are_readable : (writes reads : Writes) (touching : Bool) (before last : Quoting) (attributes : List Attribute) (b after : List ℕ)
    → ValuesCarry writes reads attributes → MayFollowValue last after → WritesAttributes writes touching before last attributes b after → WritesAttributes reads true before last attributes b after
attributes_are_readable writes reads touching before last [] b after carry follows w = w
attributes_are_readable writes reads touching before last (a ∷ attributes) b after carry follows (form, piece, rest, is, w, ws) =
    let next : MayFollowValue form (rest ++ after) = attributes_after writes touching form last attributes rest after ws follows in
    let more : ValuesCarry writes reads attributes = λ f c d r (k, low, here) e v. carry f c d r (suc k, omega arith, here) e v in (
      form,
      piece,
      rest,
      is,
      record {
        gap = w.gap;
        name = w.name;
        value = w.value;
        is = w.is;
        apart = gap_serves (parts_attributes touching before) (parts_attributes true before) w.gap (less_apart touching before) w.apart;
        lowered = w.lowered;
        assigned = carry form a w.value (rest ++ after) (0, omega arith, refl) next w.assigned;
      },
      attributes_are_readable writes reads touching form last attributes rest after more follows ws,
    )

-- a start tag that is written by the first relation is one by the second too, where attributes may touch
pub start_is_readable : (writes reads : Writes) (touching : Bool) (name : List ℕ) (attributes : List Attribute) (slash : Bool) (b after : List ℕ)
    → ValuesCarry writes reads attributes → WritesStart writes touching name attributes slash b after → WritesStart reads true name attributes slash b after
start_is_readable writes reads touching name attributes slash b after carry w = record {
  written = w.written;
  last = w.last;
  middle = w.middle;
  gap = w.gap;
  is = w.is;
  lowered = w.lowered;
  attributed = attributes_are_readable writes reads touching bare w.last attributes w.middle (w.gap ++ (tag_end slash ++ after)) carry (closing_after w.last slash w.gap after w.apart) w.attributed;
  apart = w.apart;
}

looser : (apart : Bool) (gap : List ℕ) → is_gap apart gap ≡ true → is_gap false gap ≡ true
looser apart gap h = gap_serves apart false gap (λ no. absurd (cc)) h

plain_is_readable : (apart : Bool) (b : List ℕ) → IsPlainDoctype apart b → IsPlainDoctype false b
plain_is_readable apart b w = record {
  word = w.word;
  gap = w.gap;
  name = w.name;
  tail = w.tail;
  whole = w.whole;
  word_is = w.word_is;
  gap_is = looser apart w.gap w.gap_is;
  name_is = w.name_is;
  tail_is = w.tail_is;
}

legacy_is_readable : (apart : Bool) (b : List ℕ) → IsLegacyDoctype apart b → IsLegacyDoctype false b
legacy_is_readable apart b w = record {
  word = w.word;
  gap = w.gap;
  name = w.name;
  space = w.space;
  keyword = w.keyword;
  between = w.between;
  identifier = w.identifier;
  tail = w.tail;
  whole = w.whole;
  word_is = w.word_is;
  gap_is = looser apart w.gap w.gap_is;
  name_is = w.name_is;
  space_is = w.space_is;
  keyword_is = w.keyword_is;
  between_is = looser apart w.between w.between_is;
  identifier_is = w.identifier_is;
  tail_is = w.tail_is;
}

-- a doctype whose words stand apart is one whose words may touch
pub doctype_is_readable : (apart legacy : Bool) (b : List ℕ) → WritesDoctype apart legacy b → WritesDoctype false legacy b
doctype_is_readable apart false b w = plain_is_readable apart b w
doctype_is_readable apart true b w = legacy_is_readable apart b w
