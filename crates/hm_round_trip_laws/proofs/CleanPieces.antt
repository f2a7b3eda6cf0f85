-- What is spelled of clean texts, values, names and comments is clean.
use Rattle.std.proofs.Common.{◌≡◌, ℕ, Bool, true, false, cond, not, ◌&&◌, ◌||◌, ◌==◌, ◌⊎◌, ◌<◌, ◌≤◌, arith, List, [], ◌∷◌, ◌++◌, map, inl, inr, refl, sym, subst, ◌∙◌, codes, chars, encode_utf8_all}
use Rattle.std.specs.Str.{is_utf8}
use Rattle.std.proofs.lemmas.Bool.{and_parts, cases_lt, eqb-true, not-true}
use Rattle.std.proofs.lemmas.Str.{IsUtf8-encode, IsUtf8-from_is_utf8, is_utf8-from_IsUtf8, scalars-chars}
use lib.Utf8.{encode, scalar, scalars}
use Rattle.hm_base.specs.Bytes.{all_pass, is_null, lower, is_space, is_alnum, is_letter, is_digit_of}
use Rattle.hm_base.specs.Forms.{has_byte, is_attribute_byte, is_attribute_name, is_tag_name}
use Rattle.hm_base.specs.Walks.{Attribute, Element}
use Rattle.hm_elements.specs.Settled.{all_names_in_form, all_utf8, no_zero_in_values}
use Rattle.hm_elements.specs.Places.{AttributesAllowed}
use Rattle.hm_elements.proofs.NameFacts.{tag_name_is_utf8, tag_name_has_no_zero}
use Rattle.hm_markup_spec.specs.Doctypes.{IsPlainDoctype, IsLegacyDoctype, WritesDoctype}
use Rattle.hm_markup_spec.specs.Tags.{Quoting, bare, unquoted, double, single, IsAssigned, parts_attributes, parts_slash, WritesAttributes, tag_end, WritesEnd}
use Rattle.hm_markup_spec.proofs.Gaps.{gap_blank}
use Rattle.hm_refs.specs.Names.{Entry}
use Rattle.hm_refs.specs.Tables.{IsTable}
use Rattle.hm_spelling_spec.specs.Characters.{Spot, CharacterRules, Piece, itself, reference_to, section, spelled, meant, AreAllowed, SpellsPoints}
use Rattle.hm_spelling_spec.specs.Spellings.{Before, wants_line_feed, with_line_feed}
use Rattle.hm_spelling_spec.specs.Tags.{Spelling, character_rules, SpellsValue, SpellsStart}
use Rattle.hm_token_laws.proofs.Plain.{pass_left, pass_right}
use Rattle.hm_round_trip_laws.specs.References.{is_reference_byte}
use Rattle.hm_round_trip_laws.proofs.Clean.{is_no_zero, no_zero_high, Clean, clean_both, clean_text, points_no_zero, is_plain, clean_ascii, clean_blank, clean_word, clean_lowered}
use Rattle.hm_round_trip_laws.proofs.Encoded.{encode_passes}
use Rattle.hm_round_trip_laws.proofs.ReferencePieces.{Refers}
use Rattle.hm_round_trip_laws.proofs.Values.{bytes_back}
use Rattle.hm_round_trip_laws.proofs.Within.{pass_more, not_few, reference_pass}

-- ---- code points

-- scalar values other than zero
pub record GoodPoints (cs : List ℕ) : Type 0 where
  pub scalar_values : all_pass scalar cs ≡ true
  pub no_zero : all_pass is_no_zero cs ≡ true

good_first : (c : ℕ) (cs : List ℕ) → GoodPoints (c ∷ cs) → (scalar c ≡ true) × (is_no_zero c ≡ true)
good_first c cs h = ((and_parts (scalar c) (all_pass scalar cs) h.scalar_values).0, (and_parts (is_no_zero c) (all_pass is_no_zero cs) h.no_zero).0)

good_left : (xs ys : List ℕ) → GoodPoints (xs ++ ys) → GoodPoints xs
good_left xs ys h = record { scalar_values = pass_left scalar xs ys h.scalar_values; no_zero = pass_left is_no_zero xs ys h.no_zero }

good_right : (xs ys : List ℕ) → GoodPoints (xs ++ ys) → GoodPoints ys
good_right xs ys h = record { scalar_values = pass_right scalar xs ys h.scalar_values; no_zero = pass_right is_no_zero xs ys h.no_zero }

scalars_pass : (cs : List ℕ) → scalars cs ≡ true → all_pass scalar cs ≡ true
scalars_pass [] h = refl
scalars_pass (c ∷ cs) h = let both = and_parts (scalar c) (scalars cs) h in rw (both.0, scalars_pass cs both.1) refl

-- those of a clean text
text_points : (s : List ℕ) → Clean s → GoodPoints (chars s)
text_points s h = record {
  scalar_values = scalars_pass (chars s) (scalars-chars s (IsUtf8-from_is_utf8 s h.utf8));
  no_zero = points_no_zero (chars s) (subst (λ x. all_pass is_no_zero x ≡ true) (sym (bytes_back s h.utf8)) h.bytes);
}

line_feed_points : (before : Before) (path : List Element) (s : List ℕ) → Clean s → GoodPoints (with_line_feed before path (chars s))
unfolding is_no_zero
line_feed_points before path s h = by_test (wants_line_feed before path (chars s)) (text_points s h)
  where
    by_test : (b : Bool) → GoodPoints (chars s) → GoodPoints (cond b (10 ∷ chars s) (chars s))
    by_test true good = record { scalar_values = good.scalar_values; no_zero = good.no_zero }
    by_test false good = good

-- ---- pieces

pub clean_nothing : Clean []
clean_nothing = clean_ascii [] refl

clean_point : (c : ℕ) → scalar c ≡ true → is_no_zero c ≡ true → Clean (encode c)
clean_point c h i = record { bytes = encode_passes is_no_zero c no_zero_high i; utf8 = is_utf8-from_IsUtf8 (encode c) (IsUtf8-encode c h) }

clean_points : (cs : List ℕ) → GoodPoints cs → Clean (encode_utf8_all cs)
clean_points [] h = clean_nothing
clean_points (c ∷ cs) h = let one = good_first c cs h in clean_both (encode c) (encode_utf8_all cs) (clean_point c one.0 one.1) (clean_points cs (good_right (c ∷ []) cs h))

no_letter_high : (c : ℕ) → 128 ≤ c → is_letter c ≡ false
unfolding is_letter
no_letter_high c g = grind arith

no_digit_high : (c : ℕ) → 128 ≤ c → is_digit_of 10 c ≡ false
unfolding is_digit_of
no_digit_high c g = grind arith

no_signs_high : (c : ℕ) → 128 ≤ c → c == 35 || c == 59 ≡ false
no_signs_high c g = grind arith

few_high : (c : ℕ) → 128 ≤ c → is_reference_byte c ≡ false
unfolding is_reference_byte is_alnum
few_high c g = rw (no_letter_high c g, no_digit_high c g, no_signs_high c g) refl

zero_not_few : is_reference_byte 0 ≡ false
unfolding is_reference_byte is_alnum is_letter is_digit_of
zero_not_few = refl

between : (c : ℕ) → (c == 0) ≡ false → c < 128 → is_plain c ≡ true
unfolding is_plain
between c h l = grind arith

few_plain : (c : ℕ) → is_reference_byte c ≡ true → is_plain c ≡ true
few_plain c h = by_size (cases_lt c 128)
  where
    by_size : (c < 128) ⊎ (128 ≤ c) → is_plain c ≡ true
    by_size (inl l) = between c (not_few 0 c zero_not_few h) l
    by_size (inr g) = absurd (let no : is_reference_byte c ≡ false = few_high c g in cc)

amp_plain : is_plain 38 ≡ true
unfolding is_plain
amp_plain = refl

clean_reference : (t : List Entry) (spot : Spot) (qs b follows : List ℕ) → IsTable t → Refers t spot qs b follows → Clean b
clean_reference t spot qs b follows k r = clean_ascii b (reference_pass t spot is_plain qs b follows k amp_plain few_plain r)

section_marks : Clean (codes "<![CDATA[") × Clean (codes "]]>")
unfolding is_plain
section_marks = (clean_ascii _ refl, clean_ascii _ refl)

clean_pieces : (t : List Entry) (rules : CharacterRules) (spot : Spot) (ps : List Piece) (after : List ℕ) → IsTable t → AreAllowed t rules spot ps after → GoodPoints (meant ps) → Clean (spelled ps)
clean_pieces t rules spot [] after k g h = clean_nothing
clean_pieces t rules spot (itself c ∷ ps) after k (i, g) h =
    let one = good_first c (meant ps) h in
    clean_both (encode c) (spelled ps) (clean_point c one.0 one.1) (clean_pieces t rules spot ps after k g (good_right (c ∷ []) (meant ps) h))
clean_pieces t rules spot (reference_to b qs ∷ ps) after k ((begins, r), g) h =
    clean_both b (spelled ps) (clean_reference t spot qs b (spelled ps ++ after) k r) (clean_pieces t rules spot ps after k g (good_right qs (meant ps) h))
clean_pieces t rules spot (section cs ∷ ps) after k (i, g) h =
    let inner = clean_both (encode_utf8_all cs) (codes "]]>") (clean_points cs (good_left cs (meant ps) h)) section_marks.1 in
    clean_both (codes "<![CDATA[" ++ (encode_utf8_all cs ++ codes "]]>")) (spelled ps) (clean_both (codes "<![CDATA[") (encode_utf8_all cs ++ codes "]]>") section_marks.0 inner)
    (clean_pieces t rules spot ps after k g (good_right cs (meant ps) h))

clean_spelled : (t : List Entry) (rules : CharacterRules) (spot : Spot) (cs b after : List ℕ) → IsTable t → GoodPoints cs → SpellsPoints t rules spot cs b after → Clean b
clean_spelled t rules spot cs b after k h s = subst Clean s.whole (clean_pieces t rules spot s.pieces after k s.allowed (subst GoodPoints (sym s.means) h))

pub clean_spelled_text : (t : List Entry) (rules : CharacterRules) (spot : Spot) (before : Before) (path : List Element) (s b after : List ℕ) → IsTable t → Clean s → SpellsPoints t rules spot (with_line_feed before path (chars s)) b after → Clean b
clean_spelled_text t rules spot before path s b after k h sp = clean_spelled t rules spot (with_line_feed before path (chars s)) b after k (line_feed_points before path s h) sp

-- ---- values

clean_byte : (c : ℕ) → is_plain c ≡ true → Clean (c ∷ [])
clean_byte c h = clean_ascii (c ∷ []) (rw h refl)

marks : (is_plain 34 ≡ true) × (is_plain 39 ≡ true) × (is_plain 61 ≡ true) × (is_plain 60 ≡ true) × (is_plain 47 ≡ true) × (is_plain 62 ≡ true)
unfolding is_plain
marks = (refl, refl, refl, refl, refl, refl)

clean_assigned : (v b : List ℕ) → Clean v → IsAssigned v b → Clean b
clean_assigned v b h w =
    let follows = clean_both (61 ∷ []) (w.right ++ v) (clean_byte 61 marks.2) (clean_both w.right v (clean_blank w.right w.right_blank) h) in
    subst Clean (sym w.is) (clean_both w.left (61 ∷ (w.right ++ v)) (clean_blank w.left w.left_blank) follows)

clean_quoted : (quote : ℕ) (v b : List ℕ) → is_plain quote ≡ true → Clean v → IsAssigned (quote ∷ (v ++ quote ∷ [])) b → Clean b
clean_quoted quote v b q h w = clean_assigned (quote ∷ (v ++ quote ∷ [])) b (clean_both (quote ∷ []) (v ++ quote ∷ []) (clean_byte quote q) (clean_both v (quote ∷ []) h (clean_byte quote q))) w

clean_value : (g : Spelling) (form : Quoting) (value b after : List ℕ) → IsTable g.table → Clean value → SpellsValue g form value b after → Clean b
clean_value g bare value b after k h w = subst Clean (sym w.1) clean_nothing
clean_value g unquoted value b after k h w = clean_assigned w.written b (clean_spelled g.table (character_rules g) _ (chars value) w.written after k (text_points value h) w.spells) w.is
clean_value g double value b after k h w = clean_quoted 34 w.written b marks.0 (clean_spelled g.table (character_rules g) _ (chars value) w.written (34 ∷ after) k (text_points value h) w.spells) w.is
clean_value g single value b after k h w = clean_quoted 39 w.written b marks.1 (clean_spelled g.table (character_rules g) _ (chars value) w.written (39 ∷ after) k (text_points value h) w.spells) w.is

-- ---- attributes

-- names and values of attributes that are allowed
pub record GoodAttributes (attributes : List Attribute) : Type 0 where
  pub names : all_names_in_form attributes ≡ true
  pub no_zero : no_zero_in_values attributes ≡ true
  pub utf8 : all_utf8 attributes ≡ true

zero_fails : is_attribute_byte 0 ≡ false
unfolding is_attribute_byte is_space
zero_fails = refl

attribute_byte : (c : ℕ) → is_attribute_byte c ≡ true → is_no_zero c ≡ true
unfolding is_no_zero
attribute_byte c h = by_test (c == 0) refl
  where
    by_test : (b : Bool) → (c == 0) ≡ b → not b ≡ true
    by_test true e = absurd (let yes : is_attribute_byte 0 ≡ true = subst (λ x. is_attribute_byte x ≡ true) (eqb-true c 0 e) h in let no : false ≡ true = sym zero_fails ∙ yes in cc)
    by_test false e = refl

name_clean : (a : Attribute) → is_attribute_name a.name ≡ true → is_utf8 a.name ≡ true → Clean a.name
unfolding is_attribute_name
name_clean a h u = record { bytes = pass_more is_attribute_byte is_no_zero a.name attribute_byte (and_parts (not (is_null a.name)) (all_pass is_attribute_byte a.name) h).1; utf8 = u }

-- the first attribute, and the others
record FirstGood (a : Attribute) (attributes : List Attribute) : Type 0 where
  name : Clean a.name
  value : Clean a.value
  more : GoodAttributes attributes

first_good : (a : Attribute) (attributes : List Attribute) → GoodAttributes (a ∷ attributes) → FirstGood a attributes
first_good a attributes h =
    let named = and_parts (is_attribute_name a.name) (all_names_in_form attributes) h.names in
    let zeros = and_parts (not (has_byte 0 a.value)) (no_zero_in_values attributes) h.no_zero in
    let texts = and_parts (is_utf8 a.name && is_utf8 a.value) (all_utf8 attributes) h.utf8 in
    let both = and_parts (is_utf8 a.name) (is_utf8 a.value) texts.0 in
    record { name = name_clean a named.0 both.0; value = clean_text a.value (not-true (has_byte 0 a.value) zeros.0) both.1; more = record { names = named.1; no_zero = zeros.1; utf8 = texts.1 } }

clean_attributes : (g : Spelling) (touching : Bool) (before last : Quoting) (attributes : List Attribute) (b after : List ℕ) → IsTable g.table → GoodAttributes attributes → WritesAttributes (SpellsValue g) touching before last attributes b after → Clean b
clean_attributes g touching before last [] b after k h w = subst Clean (sym w.1) clean_nothing
clean_attributes g touching before last (a ∷ attributes) b after k h (form, piece, rest, is, w, ws) =
    let good = first_good a attributes h in
    let gap = clean_blank w.gap (gap_blank (parts_attributes touching before) w.gap w.apart) in
    let name = clean_lowered w.name a.name w.lowered good.name in
    let value = clean_value g form a.value w.value (rest ++ after) k good.value w.assigned in
    let one = subst Clean (sym w.is) (clean_both w.gap (w.name ++ w.value) gap (clean_both w.name w.value name value)) in
    subst Clean (sym is) (clean_both piece rest one (clean_attributes g touching form last attributes rest after k good.more ws))

-- ---- tags

tag_name_clean : (name written : List ℕ) → is_tag_name name ≡ true → map lower written ≡ name → Clean written
tag_name_clean name written h e = clean_lowered written name e (clean_text name (tag_name_has_no_zero name h) (is_utf8-from_IsUtf8 name (tag_name_is_utf8 name h)))

clean_tag_end : (slash : Bool) → Clean (tag_end slash)
clean_tag_end true = clean_both (47 ∷ []) (62 ∷ []) (clean_byte 47 marks.4) (clean_byte 62 marks.5)
clean_tag_end false = clean_byte 62 marks.5

pub clean_start : (g : Spelling) (name : List ℕ) (attributes : List Attribute) (slash : Bool) (b after : List ℕ) → IsTable g.table → is_tag_name name ≡ true → AttributesAllowed attributes → SpellsStart g name attributes slash b after → Clean b
clean_start g name attributes slash b after k h a w =
    let good : GoodAttributes attributes = record { names = a.names; no_zero = a.no_zero; utf8 = a.utf8 } in
    let middle = clean_attributes g g.rules.tight bare w.last attributes w.middle (w.gap ++ (tag_end slash ++ after)) k good w.attributed in
    let tail = clean_both w.gap (tag_end slash) (clean_blank w.gap (gap_blank (slash && parts_slash w.last) w.gap w.apart)) (clean_tag_end slash) in
    let follows = clean_both w.written (w.middle ++ (w.gap ++ tag_end slash)) (tag_name_clean name w.written h w.lowered) (clean_both w.middle (w.gap ++ tag_end slash) middle tail) in
    subst Clean (sym w.is) (clean_both (60 ∷ []) (w.written ++ (w.middle ++ (w.gap ++ tag_end slash))) (clean_byte 60 marks.3) follows)

pub clean_end : (name b : List ℕ) → is_tag_name name ≡ true → WritesEnd name b → Clean b
clean_end name b h w =
    let tail = clean_both w.gap (62 ∷ []) (clean_blank w.gap w.blank) (clean_byte 62 marks.5) in
    let follows = clean_both w.written (w.gap ++ 62 ∷ []) (tag_name_clean name w.written h w.lowered) tail in
    let slash = clean_both (47 ∷ []) (w.written ++ (w.gap ++ 62 ∷ [])) (clean_byte 47 marks.4) follows in
    subst Clean (sym w.is) (clean_both (60 ∷ []) (47 ∷ (w.written ++ (w.gap ++ 62 ∷ []))) (clean_byte 60 marks.3) slash)

-- ---- doctypes and comments

words_plain : (all_pass is_plain (codes "<!doctype") ≡ true) × (all_pass is_plain (codes "html") ≡ true) × (all_pass is_plain (codes "system") ≡ true)
unfolding is_plain
words_plain = (refl, refl, refl)

clean_plain_doctype : (b : List ℕ) → IsPlainDoctype true b → Clean b
clean_plain_doctype b w =
    let tail = clean_both w.tail (62 ∷ []) (clean_blank w.tail w.tail_is) (clean_byte 62 marks.5) in
    let name = clean_both w.name (w.tail ++ 62 ∷ []) (clean_word w.name (codes "html") w.name_is words_plain.1) tail in
    let gap = clean_both w.gap (w.name ++ (w.tail ++ 62 ∷ [])) (clean_blank w.gap (gap_blank true w.gap w.gap_is)) name in
    subst Clean (sym w.whole) (clean_both w.word (w.gap ++ (w.name ++ (w.tail ++ 62 ∷ []))) (clean_word w.word (codes "<!doctype") w.word_is words_plain.0) gap)

clean_identifier : (s : List ℕ) → (s ≡ codes "\"about:legacy-compat\"") ⊎ (s ≡ codes "'about:legacy-compat'") → Clean s
unfolding is_plain
clean_identifier s (inl e) = subst Clean (sym e) (clean_ascii _ refl)
clean_identifier s (inr e) = subst Clean (sym e) (clean_ascii _ refl)

clean_legacy_doctype : (b : List ℕ) → IsLegacyDoctype true b → Clean b
clean_legacy_doctype b w =
    let tail = clean_both w.tail (62 ∷ []) (clean_blank w.tail w.tail_is) (clean_byte 62 marks.5) in
    let identifier = clean_both w.identifier _ (clean_identifier w.identifier w.identifier_is) tail in
    let between = clean_both w.between _ (clean_blank w.between (gap_blank true w.between w.between_is)) identifier in
    let keyword = clean_both w.keyword _ (clean_word w.keyword (codes "system") w.keyword_is words_plain.2) between in
    let space = clean_both w.space _ (clean_blank w.space (gap_blank true w.space w.space_is)) keyword in
    let name = clean_both w.name _ (clean_word w.name (codes "html") w.name_is words_plain.1) space in
    let gap = clean_both w.gap _ (clean_blank w.gap (gap_blank true w.gap w.gap_is)) name in
    subst Clean (sym w.whole) (clean_both w.word _ (clean_word w.word (codes "<!doctype") w.word_is words_plain.0) gap)

pub clean_doctype : (legacy : Bool) (b : List ℕ) → WritesDoctype true legacy b → Clean b
clean_doctype false b w = clean_plain_doctype b w
clean_doctype true b w = clean_legacy_doctype b w

comment_marks : Clean (codes "<!--") × Clean (codes "-->")
unfolding is_plain
comment_marks = (clean_ascii _ refl, clean_ascii _ refl)

pub clean_comment : (s rest : List ℕ) → Clean s → Clean rest → Clean (codes "<!--" ++ (s ++ (codes "-->" ++ rest)))
clean_comment s rest h i = clean_both (codes "<!--") (s ++ (codes "-->" ++ rest)) comment_marks.0 (clean_both s (codes "-->" ++ rest) h (clean_both (codes "-->") rest comment_marks.1 i))
