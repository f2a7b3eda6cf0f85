-- A written doctype or tag stays one, with the same meaning, where its line ends and those of what follows become LF.
use Rattle.std.proofs.Common.{◌≡◌, ◌⊎◌, inl, inr, ℕ, suc, Bool, true, false, not, ◌&&◌, ◌==◌, List, [], ◌∷◌, ◌++◌, map, Contains, codes, refl, sym, ap, subst, ◌∙◌, arith, append_assoc, if◌then◌else◌}
use Rattle.std.proofs.lemmas.Bool.{and_parts}
use Rattle.hm_base.specs.Bytes.{lower, all_pass, head_is, is_digit_of, is_space}
use Rattle.hm_base.specs.Forms.{is_small, is_tag_byte, is_tag_name, is_attribute_byte, is_attribute_name}
use Rattle.hm_base.specs.Walks.{Attribute}
use Rattle.hm_markup_spec.specs.Gaps.{IsWord}
use Rattle.hm_markup_spec.specs.Doctypes.{IsPlainDoctype, IsLegacyDoctype, WritesDoctype}
use Rattle.hm_markup_spec.specs.Tags.{Quoting, bare, unquoted, double, single, Writes, IsAssigned, parts_attributes, parts_slash, WritesAttribute, WritesAttributes, tag_end, WritesStart, WritesEnd}
use Rattle.hm_markup_spec.proofs.Gaps.{gap_blank, blank_gap}
use Rattle.hm_markup_spec.proofs.LineEnds.{newlines, newlines_after, is_no_return, newlines_plain, IsInLine, lowered_plain, lowered_in_line, gap_lines}
use Rattle.hm_markup_spec.proofs.Readable.{ends_value, MayFollowValue, closing_after, attributes_after}

-- with line ends as LF in b and in after, b is still written before after
pub record HasLines (W : List ℕ → List ℕ → Type 0) (b after : List ℕ) : Type 0 where
  pub other : List ℕ
  pub written : W other (newlines after)
  pub is : newlines (b ++ after) ≡ other ++ newlines after

-- ---- names

tag_byte_no_return : (is_small 13 ≡ false) × (is_tag_byte 13 ≡ false)
unfolding is_small is_tag_byte is_digit_of
tag_byte_no_return = (refl, refl)

tag_name_plain : (name written : List ℕ) → map lower written ≡ name → is_tag_name name ≡ true → all_pass is_no_return written ≡ true
unfolding is_tag_name
tag_name_plain name [] e h = refl
tag_name_plain name (c ∷ written) e h =
    let good : is_small (lower c) && all_pass is_tag_byte (map lower written) ≡ true = subst (λ n. is_tag_name n ≡ true) (sym e) h in
    let both = and_parts (is_small (lower c)) (all_pass is_tag_byte (map lower written)) good in
    let one : all_pass is_no_return (c ∷ []) ≡ true = lowered_plain is_small (c ∷ []) tag_byte_no_return.0 (rw both.0 refl) in
    let more : all_pass is_no_return written ≡ true = lowered_plain is_tag_byte written tag_byte_no_return.1 both.1 in
    rw ((and_parts (is_no_return c) true one).0, more) refl

attribute_byte_in_line : (is_attribute_byte 10 ≡ false) × (is_attribute_byte 13 ≡ false)
unfolding is_attribute_byte is_space
attribute_byte_in_line = (refl, refl)

attribute_name_in_line : (name written : List ℕ) → map lower written ≡ name → is_attribute_name name ≡ true → IsInLine written
unfolding is_attribute_name
attribute_name_in_line [] written e h = absurd (cc)
attribute_name_in_line (c ∷ name) written e h = lowered_in_line is_attribute_byte written c name e attribute_byte_in_line.0 attribute_byte_in_line.1 h

-- ---- values

-- a value that begins inside a line, with its '='
pub assigned_lines : (v b after : List ℕ) → IsInLine v → IsAssigned v b → HasLines (λ other more. IsAssigned v other) b after
assigned_lines v b after value w =
    let equals : IsInLine (61 ∷ []) = record { first = 61; more = []; is = refl; no_feed = refl; plain = refl } in
    let right = gap_lines false w.right v after (blank_gap w.right w.right_blank) value in
    let left = gap_lines false w.left (61 ∷ []) (w.right ++ (v ++ after)) (blank_gap w.left w.left_blank) equals in
    let cut : b ++ after ≡ w.left ++ (61 ∷ (w.right ++ (v ++ after))) = rw w.is (simp append_assoc) in
    record {
      other = left.other ++ 61 ∷ (right.other ++ v);
      written = record { left = left.other; right = right.other; is = refl; left_blank = gap_blank false left.other left.gap_is; right_blank = gap_blank false right.other right.gap_is };
      is = ap newlines cut ∙ left.is ∙ ap (λ r. left.other ++ 61 ∷ r) right.is ∙ simp append_assoc refl;
    }

-- what ends a value still ends it
pub after_lines : (form : Quoting) (after : List ℕ) → MayFollowValue form after → MayFollowValue form (newlines after)
after_lines bare after h = tt
after_lines unquoted [] h = absurd (cc)
after_lines unquoted (c ∷ s) h = by_test (c == 13)
  where
    by_test : (b : Bool) → head_is ends_value (if b then 10 ∷ newlines_after true s else c ∷ newlines s) ≡ true
    by_test true = unfold is_space in refl
    by_test false = h
after_lines double after h = tt
after_lines single after h = tt

-- each value of these attributes keeps its meaning where it stands in a tag
abbrev pub ValuesHaveLines : Writes → List Attribute → Type 0
ValuesHaveLines writes attributes = (form : Quoting) (a : Attribute) (b after : List ℕ) → Contains attributes a → MayFollowValue form after → writes form a.value b after → HasLines (writes form a.value) b after

abbrev pub AreNamed : List Attribute → Type 0
AreNamed attributes = (a : Attribute) → Contains attributes a → is_attribute_name a.name ≡ true

-- ---- tags

attribute_lines : (writes : Writes) (touching : Bool) (before form : Quoting) (a : Attribute) (b after : List ℕ) → is_attribute_name a.name ≡ true
    → ((value : List ℕ) → writes form a.value value after → HasLines (writes form a.value) value after)
    → WritesAttribute writes touching before form a b after → HasLines (WritesAttribute writes touching before form a) b after
attribute_lines writes touching before form a b after good values w =
    let name : IsInLine w.name = attribute_name_in_line a.name w.name w.lowered good in
    let gap = gap_lines (parts_attributes touching before) w.gap w.name (w.value ++ after) w.apart name in
    let value = values w.value w.assigned in
    let cut : b ++ after ≡ w.gap ++ (w.name ++ (w.value ++ after)) = rw w.is (simp append_assoc) in
    record {
      other = gap.other ++ (w.name ++ value.other);
      written = record { gap = gap.other; name = w.name; value = value.other; is = refl; apart = gap.gap_is; lowered = w.lowered; assigned = value.written };
      is = ap newlines cut ∙ gap.is ∙ ap (λ r. gap.other ++ (w.name ++ r)) value.is ∙ simp append_assoc refl;
    }

pub attributes_lines : (writes : Writes) (touching : Bool) (before last : Quoting) (attributes : List Attribute) (b after : List ℕ)
    → AreNamed attributes → ValuesHaveLines writes attributes → MayFollowValue last after
    → WritesAttributes writes touching before last attributes b after → HasLines (WritesAttributes writes touching before last attributes) b after
attributes_lines writes touching before last [] b after named values follows w = record { other = []; written = (w.0, refl); is = rw w.1 refl }
attributes_lines writes touching before last (a ∷ attributes) b after named values follows (form, piece, rest, is, w, ws) =
    let next : MayFollowValue form (rest ++ after) = attributes_after writes touching form last attributes rest after ws follows in
    let more = attributes_lines writes touching form last attributes rest after
    (λ d (k, low, here). named d (suc k, omega arith, here)) (λ f d c r (k, low, here) e v. values f d c r (suc k, omega arith, here) e v) follows ws in
    let one = attribute_lines writes touching before form a piece (rest ++ after) (named a (0, omega arith, refl)) (λ v x. values form a v (rest ++ after) (0, omega arith, refl) next x) w in
    let cut : b ++ after ≡ piece ++ (rest ++ after) = rw is (simp append_assoc) in
    record {
      other = one.other ++ more.other;
      written = (form, one.other, more.other, refl, subst (λ r. WritesAttribute writes touching before form a one.other r) more.is one.written, more.written);
      is = ap newlines cut ∙ one.is ∙ ap (λ r. one.other ++ r) more.is ∙ sym (append_assoc one.other more.other (newlines after));
    }

tag_end_in_line : (slash : Bool) → IsInLine (tag_end slash)
tag_end_in_line true = record { first = 47; more = 62 ∷ []; is = refl; no_feed = refl; plain = refl }
tag_end_in_line false = record { first = 62; more = []; is = refl; no_feed = refl; plain = refl }

-- a start tag
pub start_lines : (writes : Writes) (touching : Bool) (name : List ℕ) (attributes : List Attribute) (slash : Bool) (b after : List ℕ)
    → is_tag_name name ≡ true → AreNamed attributes → ValuesHaveLines writes attributes
    → WritesStart writes touching name attributes slash b after → HasLines (WritesStart writes touching name attributes slash) b after
start_lines writes touching name attributes slash b after good named values w =
    let tail : List ℕ = w.gap ++ (tag_end slash ++ after) in
    let gap = gap_lines (slash && parts_slash w.last) w.gap (tag_end slash) after w.apart (tag_end_in_line slash) in
    let middle = attributes_lines writes touching bare w.last attributes w.middle tail named values (closing_after w.last slash w.gap after w.apart) w.attributed in
    let cut : b ++ after ≡ 60 ∷ (w.written ++ (w.middle ++ tail)) = rw w.is (simp append_assoc) in
    let plain : all_pass is_no_return w.written ≡ true = tag_name_plain name w.written w.lowered good in
    record {
      other = 60 ∷ (w.written ++ (middle.other ++ (gap.other ++ tag_end slash)));
      written = record {
        written = w.written;
        last = w.last;
        middle = middle.other;
        gap = gap.other;
        is = refl;
        lowered = w.lowered;
        attributed = subst (λ r. WritesAttributes writes touching bare w.last attributes middle.other r) gap.is middle.written;
        apart = gap.gap_is;
      };
      is = ap newlines cut ∙ ap (λ r. 60 ∷ r) (newlines_plain w.written (w.middle ++ tail) plain ∙ ap (λ r. w.written ++ r) (middle.is ∙ ap (λ r. middle.other ++ r) gap.is))
          ∙ simp append_assoc refl;
    }

-- an end tag
pub end_lines : (name b after : List ℕ) → is_tag_name name ≡ true → WritesEnd name b → HasLines (λ other more. WritesEnd name other) b after
end_lines name b after good w =
    let gap = gap_lines false w.gap (62 ∷ []) after (blank_gap w.gap w.blank) (tag_end_in_line false) in
    let cut : b ++ after ≡ 60 ∷ 47 ∷ (w.written ++ (w.gap ++ 62 ∷ after)) = rw w.is (simp append_assoc) in
    let plain : all_pass is_no_return w.written ≡ true = tag_name_plain name w.written w.lowered good in
    record {
      other = 60 ∷ 47 ∷ (w.written ++ (gap.other ++ 62 ∷ []));
      written = record { written = w.written; gap = gap.other; is = refl; lowered = w.lowered; blank = gap_blank false gap.other gap.gap_is };
      is = ap newlines cut ∙ ap (λ r. 60 ∷ 47 ∷ r) (newlines_plain w.written (w.gap ++ 62 ∷ after) plain ∙ ap (λ r. w.written ++ r) gap.is) ∙ simp append_assoc refl;
    }

-- ---- doctypes

abbrev is_in_line : ℕ → Bool
is_in_line c = not (c == 10) && not (c == 13)

word_in_line : (c : ℕ) (w s : List ℕ) → IsWord (c ∷ w) s → all_pass is_in_line (c ∷ w) ≡ true → IsInLine s
word_in_line c w s e all = lowered_in_line is_in_line s c w e refl refl all

identifier_in_line : (identifier : List ℕ) → (identifier ≡ codes "\"about:legacy-compat\"") ⊎ (identifier ≡ codes "'about:legacy-compat'") → IsInLine identifier
identifier_in_line identifier (inl e) = record { first = 34; more = codes "about:legacy-compat\""; is = e; no_feed = refl; plain = refl }
identifier_in_line identifier (inr e) = record { first = 39; more = codes "about:legacy-compat'"; is = e; no_feed = refl; plain = refl }

plain_lines : (apart : Bool) (b after : List ℕ) → IsPlainDoctype apart b → HasLines (λ other more. IsPlainDoctype apart other) b after
plain_lines apart b after w =
    let tail = gap_lines false w.tail (62 ∷ []) after (blank_gap w.tail w.tail_is) (tag_end_in_line false) in
    let gap = gap_lines apart w.gap w.name (w.tail ++ 62 ∷ after) w.gap_is (word_in_line 104 (codes "tml") w.name w.name_is refl) in
    let cut : b ++ after ≡ w.word ++ (w.gap ++ (w.name ++ (w.tail ++ 62 ∷ after))) = rw w.whole (simp append_assoc) in
    let plain : all_pass is_no_return w.word ≡ true = lowered_plain is_no_return w.word refl (rw w.word_is refl) in
    record {
      other = w.word ++ (gap.other ++ (w.name ++ (tail.other ++ 62 ∷ [])));
      written = record {
        word = w.word;
        gap = gap.other;
        name = w.name;
        tail = tail.other;
        whole = refl;
        word_is = w.word_is;
        gap_is = gap.gap_is;
        name_is = w.name_is;
        tail_is = gap_blank false tail.other tail.gap_is;
      };
      is = ap newlines cut ∙ newlines_plain w.word (w.gap ++ (w.name ++ (w.tail ++ 62 ∷ after))) plain
          ∙ ap (λ r. w.word ++ r) (gap.is ∙ ap (λ r. gap.other ++ (w.name ++ r)) tail.is)
          ∙ simp append_assoc refl;
    }

legacy_lines : (apart : Bool) (b after : List ℕ) → IsLegacyDoctype apart b → HasLines (λ other more. IsLegacyDoctype apart other) b after
legacy_lines apart b after w =
    let r = w.tail ++ 62 ∷ after in
    let q = w.between ++ (w.identifier ++ r) in
    let p = w.space ++ (w.keyword ++ q) in
    let tail = gap_lines false w.tail (62 ∷ []) after (blank_gap w.tail w.tail_is) (tag_end_in_line false) in
    let between = gap_lines apart w.between w.identifier r w.between_is (identifier_in_line w.identifier w.identifier_is) in
    let space = gap_lines true w.space w.keyword q w.space_is (word_in_line 115 (codes "ystem") w.keyword w.keyword_is refl) in
    let gap = gap_lines apart w.gap w.name p w.gap_is (word_in_line 104 (codes "tml") w.name w.name_is refl) in
    let cut : b ++ after ≡ w.word ++ (w.gap ++ (w.name ++ p)) = rw w.whole (simp append_assoc) in
    let plain : all_pass is_no_return w.word ≡ true = lowered_plain is_no_return w.word refl (rw w.word_is refl) in
    record {
      other = w.word ++ (gap.other ++ (w.name ++ (space.other ++ (w.keyword ++ (between.other ++ (w.identifier ++ (tail.other ++ 62 ∷ [])))))));
      written = record {
        word = w.word;
        gap = gap.other;
        name = w.name;
        space = space.other;
        keyword = w.keyword;
        between = between.other;
        identifier = w.identifier;
        tail = tail.other;
        whole = refl;
        word_is = w.word_is;
        gap_is = gap.gap_is;
        name_is = w.name_is;
        space_is = space.gap_is;
        keyword_is = w.keyword_is;
        between_is = between.gap_is;
        identifier_is = w.identifier_is;
        tail_is = gap_blank false tail.other tail.gap_is;
      };
      is = ap newlines cut ∙ newlines_plain w.word (w.gap ++ (w.name ++ p)) plain
          ∙ ap (λ x. w.word ++ x) (gap.is ∙ ap (λ x. gap.other ++ (w.name ++ x)) (space.is ∙ ap (λ x. space.other ++ (w.keyword ++ x)) (between.is ∙ ap (λ x. between.other ++ (w.identifier ++ x)) tail.is)))
          ∙ simp append_assoc refl;
    }

pub doctype_lines : (apart legacy : Bool) (b after : List ℕ) → WritesDoctype apart legacy b → HasLines (λ other more. WritesDoctype apart legacy other) b after
doctype_lines apart false b after w = plain_lines apart b after w
doctype_lines apart true b after w = legacy_lines apart b after w
