-- A settled walk stays settled by each of the rewrites.
use Rattle.std.proofs.Common.{◌≡◌, ℕ, ◌≤◌, Bool, true, false, not, ◌&&◌, ◌||◌, ◌==◌, inl, inr, nat_le, List, [], ◌∷◌, ◌++◌, length, flat_map, Option, Some, None, if◌then◌else◌, ◌∙◌, refl, arith}
use Rattle.std.proofs.lemmas.Bool.{and_parts}
use Rattle.std.proofs.lemmas.Str.{IsUtf8-append, IsUtf8-nil, IsUtf8-from_is_utf8, is_utf8-from_IsUtf8}
use Rattle.std.specs.Str.{is_utf8}
use Rattle.hm_base.specs.Bytes.{is_space, is_null}
use Rattle.hm_base.specs.Forms.{has_byte, is_blank, is_attribute_name}
use Rattle.hm_base.specs.Walks.{Event, doctype, start, text, comment, end, Attribute, Element, has_name, has_distinct_names, text_before, pushes, begins_end, begins_text}
use Rattle.hm_elements.specs.Tables.{is_boolean, is_raw, is_rcdata, holds_text}
use Rattle.hm_elements.specs.Paths.{is_in_raw, is_in_text}
use Rattle.hm_elements.specs.Settled.{no_zero_in_values, all_names_in_form, all_utf8, Settled}
use Rattle.hm_elements.specs.Places.{AttributesAllowed, TextAllowed, html_path}
use Rattle.hm_options.specs.Rewrites.{by, no_comment, uncommented}
use Rattle.hm_options.specs.Rules.{AttributeRule, PlainDoctype, BooleanValues, EmptyAttributes, RedundantAttributes, event_rule, attributes_rule, attribute_rule, is_dropped, valued}
use Rattle.hm_options.proofs.Kept.{rule_each, rule_count, valued_name, fresh_name}
use Rattle.hm_options.proofs.Ruled.{start_by, svg_by, text_by, comment_by, end_by}
use Rattle.hm_options.specs.Rewritten.{first_event, rewritten}
use Rattle.hm_options.proofs.Becoming.{Fine, Becomes, element_of, settled_is_fine, settled_stays}
use Rattle.hm_options.proofs.Collapsed.{text_before_others}

-- a doctype becomes a doctype
doctype_one : (rule : AttributeRule) (legacy : Bool) (path : List Element) (before next : Option Event) → (other : Bool) × (event_rule rule path before (doctype legacy) next ≡ doctype other ∷ [])
doctype_one PlainDoctype legacy path before next = (false, refl)
doctype_one BooleanValues legacy path before next = (legacy, refl)
doctype_one EmptyAttributes legacy path before next = (legacy, refl)
doctype_one RedundantAttributes legacy path before next = (legacy, refl)

-- where a text comes first, one comes first after the rewrite
begins_alike : (rule : AttributeRule) (path : List Element) (before : Option Event) (w : List Event) → begins_text (rewritten (event_rule rule) path before w) ≡ begins_text w
begins_alike rule path before [] = refl
begins_alike rule path before (doctype legacy ∷ w) = rw ((doctype_one rule legacy path before (first_event w)).1) refl
begins_alike rule path before (start n false attributes ∷ w) = rw (start_by rule n attributes path before (first_event w)) refl
begins_alike rule path before (start n true attributes ∷ w) = rw (svg_by rule n attributes path before (first_event w)) refl
begins_alike rule path before (text s raw ∷ w) = rw (text_by rule s raw path before (first_event w)) refl
begins_alike rule path before (comment s ∷ w) = rw (comment_by rule s path before (first_event w)) refl
begins_alike rule path before (end n foreign ∷ w) = rw (end_by rule n foreign path before (first_event w)) refl

fewer : (n m : ℕ) → nat_le n 256 ≡ true → m ≤ n → nat_le m 256 ≡ true
fewer n m h le = grind (arith, h, le)

not_true : (b : Bool) → not b ≡ true → b ≡ false
not_true true h = absurd (cc)
not_true false h = refl

-- one attribute before others, or none
distinct_by : (b : Bool) (a : Attribute) (rest : List Attribute) → has_name a.name rest ≡ false → has_distinct_names rest ≡ true → has_distinct_names ((if b then [] else a ∷ []) ++ rest) ≡ true
distinct_by true a rest fresh h = h
distinct_by false a rest fresh h = rw (fresh, h) refl

names_by : (b : Bool) (a : Attribute) (rest : List Attribute) → is_attribute_name a.name ≡ true → all_names_in_form rest ≡ true → all_names_in_form ((if b then [] else a ∷ []) ++ rest) ≡ true
names_by true a rest one h = h
names_by false a rest one h = rw (one, h) refl

zero_by : (b : Bool) (a : Attribute) (rest : List Attribute) → has_byte 0 a.value ≡ false → no_zero_in_values rest ≡ true → no_zero_in_values ((if b then [] else a ∷ []) ++ rest) ≡ true
zero_by true a rest one h = h
zero_by false a rest one h = rw (one, h) refl

utf8_by : (b : Bool) (a : Attribute) (rest : List Attribute) → is_utf8 a.name ≡ true → is_utf8 a.value ≡ true → all_utf8 rest ≡ true → all_utf8 ((if b then [] else a ∷ []) ++ rest) ≡ true
utf8_by true a rest name value h = h
utf8_by false a rest name value h = rw (name, value, h) refl

no_bytes : is_utf8 [] ≡ true
no_bytes = is_utf8-from_IsUtf8 [] IsUtf8-nil

value_zero_by : (b : Bool) (a : Attribute) → has_byte 0 a.value ≡ false → has_byte 0 (if b then record { name = a.name; value = [] } else a).value ≡ false
value_zero_by true a h = refl
value_zero_by false a h = h

value_utf8_by : (b : Bool) (a : Attribute) → is_utf8 a.value ≡ true → is_utf8 (if b then record { name = a.name; value = [] } else a).value ≡ true
value_utf8_by true a h = no_bytes
value_utf8_by false a h = h

valued_zero : (rule : AttributeRule) (a : Attribute) → has_byte 0 a.value ≡ false → has_byte 0 (valued rule a).value ≡ false
valued_zero PlainDoctype a h = h
valued_zero BooleanValues a h = value_zero_by (is_boolean a.name) a h
valued_zero EmptyAttributes a h = h
valued_zero RedundantAttributes a h = h

valued_utf8 : (rule : AttributeRule) (a : Attribute) → is_utf8 a.value ≡ true → is_utf8 (valued rule a).value ≡ true
valued_utf8 PlainDoctype a h = h
valued_utf8 BooleanValues a h = value_utf8_by (is_boolean a.name) a h
valued_utf8 EmptyAttributes a h = h
valued_utf8 RedundantAttributes a h = h

module _ (rule : AttributeRule) (n : List ℕ) where
  still_distinct : (attributes : List Attribute) → has_distinct_names attributes ≡ true → has_distinct_names (flat_map (attribute_rule rule n) attributes) ≡ true
  still_distinct [] h = refl
  still_distinct (a ∷ attributes) h =
      let parts = and_parts (not (has_name a.name attributes)) (has_distinct_names attributes) h in
      let fresh : has_name (valued rule a).name (flat_map (attribute_rule rule n) attributes) ≡ false = rw (valued_name rule a) (fresh_name rule n a.name attributes (not_true (has_name a.name attributes) parts.0)) in
      distinct_by (is_dropped rule n a) (valued rule a) (flat_map (attribute_rule rule n) attributes) fresh (still_distinct attributes parts.1)

  still_named : (attributes : List Attribute) → all_names_in_form attributes ≡ true → all_names_in_form (flat_map (attribute_rule rule n) attributes) ≡ true
  still_named [] h = refl
  still_named (a ∷ attributes) h =
      let parts = and_parts (is_attribute_name a.name) (all_names_in_form attributes) h in
      names_by (is_dropped rule n a) (valued rule a) (flat_map (attribute_rule rule n) attributes) (rw (valued_name rule a) parts.0) (still_named attributes parts.1)

  still_no_zero : (attributes : List Attribute) → no_zero_in_values attributes ≡ true → no_zero_in_values (flat_map (attribute_rule rule n) attributes) ≡ true
  still_no_zero [] h = refl
  still_no_zero (a ∷ attributes) h =
      let parts = and_parts (not (has_byte 0 a.value)) (no_zero_in_values attributes) h in
      zero_by (is_dropped rule n a) (valued rule a) (flat_map (attribute_rule rule n) attributes) (valued_zero rule a (not_true (has_byte 0 a.value) parts.0)) (still_no_zero attributes parts.1)

  still_utf8 : (attributes : List Attribute) → all_utf8 attributes ≡ true → all_utf8 (flat_map (attribute_rule rule n) attributes) ≡ true
  still_utf8 [] h = refl
  still_utf8 (a ∷ attributes) h =
      let parts = and_parts (is_utf8 a.name && is_utf8 a.value) (all_utf8 attributes) h in
      let both = and_parts (is_utf8 a.name) (is_utf8 a.value) parts.0 in
      utf8_by (is_dropped rule n a) (valued rule a) (flat_map (attribute_rule rule n) attributes) (rw (valued_name rule a) both.0) (valued_utf8 rule a both.1) (still_utf8 attributes parts.1)

  still_allowed : (attributes : List Attribute) → AttributesAllowed attributes → AttributesAllowed (attributes_rule rule n attributes)
  still_allowed attributes a = rw (rule_each rule n attributes) (record {
    few = fewer (length attributes) (length (flat_map (attribute_rule rule n) attributes)) a.few (rule_count rule n attributes);
    distinct = still_distinct attributes a.distinct;
    names = still_named attributes a.names;
    no_zero = still_no_zero attributes a.no_zero;
    utf8 = still_utf8 attributes a.utf8;
  })

module _ (rule : AttributeRule) where
  end_first : (path : List Element) (before : Option Event) (w : List Event) → begins_end w ≡ true → begins_end (rewritten (event_rule rule) path before w) ≡ true
  end_first path before [] h = absurd (cc)
  end_first path before (doctype legacy ∷ w) h = absurd (cc)
  end_first path before (start n foreign attributes ∷ w) h = absurd (cc)
  end_first path before (text s raw ∷ w) h = absurd (cc)
  end_first path before (comment s ∷ w) h = absurd (cc)
  end_first path before (end n foreign ∷ w) h = rw (end_by rule n foreign path before (first_event w)) refl

  ruled_becomes : (path : List Element) (before : Option Event) (w : List Event) → Fine path w → Becomes path w (rewritten (event_rule rule) path before w)
  ruled_becomes path before [] h = refl
  ruled_becomes path before (doctype legacy ∷ w) h =
      let one = doctype_one rule legacy path before (first_event w) in
      rw (one.1) (one.0, rewritten (event_rule rule) path (Some (doctype legacy)) w, refl, ruled_becomes path (Some (doctype legacy)) w h)
  ruled_becomes path before (start n false attributes ∷ w) h =
      let inside = element_of n false ∷ path in
      rw (start_by rule n attributes path before (first_event w)) (
        attributes_rule rule n attributes,
        rewritten (event_rule rule) inside (Some (start n false attributes)) w,
        refl,
        still_allowed rule n attributes h.0,
        end_first inside (Some (start n false attributes)) w,
        ruled_becomes inside (Some (start n false attributes)) w h.1,
      )
  ruled_becomes path before (start n true attributes ∷ w) h =
      let inside = element_of n true ∷ path in
      rw (svg_by rule n attributes path before (first_event w)) (
        attributes,
        rewritten (event_rule rule) inside (Some (start n true attributes)) w,
        refl,
        h.0,
        end_first inside (Some (start n true attributes)) w,
        ruled_becomes inside (Some (start n true attributes)) w h.1,
      )
  ruled_becomes path before (text s raw ∷ w) h =
      let rest = rewritten (event_rule rule) path (Some (text s raw)) w in
      let alone : begins_text rest ≡ false = begins_alike rule path (Some (text s raw)) w ∙ h.0.alone in
      rw (text_by rule s raw path before (first_event w)) (inr (s, raw, rest, refl, text_before_others path s raw w rest h.0 alone, h.1, ruled_becomes path (Some (text s raw)) w h.2))
  ruled_becomes path before (comment s ∷ w) h =
      rw (comment_by rule s path before (first_event w)) (inr (rewritten (event_rule rule) path (Some (comment s)) w, refl, ruled_becomes path (Some (comment s)) w h.1))
  ruled_becomes [] before (end n foreign ∷ w) h =
      rw (end_by rule n foreign [] before (first_event w)) (rewritten (event_rule rule) [] (Some (end n foreign)) w, refl, ruled_becomes [] (Some (end n foreign)) w h)
  ruled_becomes (e ∷ path) before (end n foreign ∷ w) h =
      rw (end_by rule n foreign (e ∷ path) before (first_event w)) (rewritten (event_rule rule) path (Some (end n foreign)) w, refl, ruled_becomes path (Some (end n foreign)) w h)

  pub ruled_settled : (w : List Event) → Settled w → Settled (by (event_rule rule) w)
  ruled_settled w h = settled_stays w (by (event_rule rule) w) h (ruled_becomes [] None w (settled_is_fine w h))

-- Comments left out.
end_before : (path : List Element) (before : Option Event) (w : List Event) → begins_end w ≡ true → begins_end (pushes (rewritten no_comment path before w) []) ≡ true
end_before path before [] h = absurd (cc)
end_before path before (doctype legacy ∷ w) h = absurd (cc)
end_before path before (start n foreign attributes ∷ w) h = absurd (cc)
end_before path before (text s raw ∷ w) h = absurd (cc)
end_before path before (comment s ∷ w) h = absurd (cc)
end_before path before (end n foreign ∷ w) h = refl

-- where a text comes first that didn't, a comment was left out, and that stands in no element of one text
joins_outside : (path : List Element) (before : Option Event) (w : List Event) → Fine path w → begins_text w ≡ false → begins_text (pushes (rewritten no_comment path before w) []) ≡ true → is_in_text path ≡ false
joins_outside path before [] h other first = absurd (cc)
joins_outside path before (doctype legacy ∷ w) h other first = absurd (cc)
joins_outside path before (start n foreign attributes ∷ w) h other first = absurd (cc)
joins_outside path before (text s raw ∷ w) h other first = absurd (cc)
joins_outside path before (comment s ∷ w) h other first = h.0.outside
joins_outside path before (end n foreign ∷ w) h other first = absurd (cc)

not_raw : (f r c : Bool) → not f && (r || c) ≡ false → not f && r ≡ false
not_raw true r c h = refl
not_raw false true c h = h
not_raw false false c h = refl

outside_raw : (path : List Element) → is_in_text path ≡ false → is_in_raw path ≡ false
unfolding holds_text
outside_raw [] h = refl
outside_raw (e ∷ path) h = not_raw e.foreign (is_raw e.name) (is_rcdata e.name) h

null_append : (s t : List ℕ) → is_null s ≡ false → is_null (s ++ t) ≡ false
null_append [] t h = absurd (cc)
null_append (c ∷ s) t h = refl

or_parts : (a b : Bool) → a || b ≡ false → (a ≡ false) × (b ≡ false)
or_parts true b h = absurd (cc)
or_parts false b h = (refl, h)

zero_append : (s t : List ℕ) → has_byte 0 s ≡ false → has_byte 0 t ≡ false → has_byte 0 (s ++ t) ≡ false
zero_append [] t h k = k
zero_append (c ∷ s) t h k =
    let parts = or_parts (c == 0) (has_byte 0 s) h in
    rw (parts.0) (zero_append s t parts.1 k)

blank_append : (s t : List ℕ) → is_blank s ≡ true → is_blank t ≡ true → is_blank (s ++ t) ≡ true
blank_append [] t h k = k
blank_append (c ∷ s) t h k =
    let parts = and_parts (is_space c) (is_blank s) h in
    rw (parts.0) (blank_append s t parts.1 k)

-- two texts as one
text_append : (path : List Element) (s t : List ℕ) (raw kind : Bool) (w rest : List Event) → is_in_text path ≡ false → TextAllowed path s raw w → TextAllowed path t kind rest → TextAllowed path (s ++ t) raw rest
text_append path s t raw kind w rest outside a b =
    let plain : raw ≡ false = a.kind ∙ outside_raw path outside in
    record {
      not_empty = null_append s t a.not_empty;
      alone = b.alone;
      no_zero = zero_append s t a.no_zero b.no_zero;
      kind = a.kind;
      blank = λ e. blank_append s t (a.blank e) (b.blank e);
      no_return = λ e. absurd (cc);
      ends = λ e. absurd (cc);
      utf8 = is_utf8-from_IsUtf8 (s ++ t) (IsUtf8-append s t (IsUtf8-from_is_utf8 s a.utf8) (IsUtf8-from_is_utf8 t b.utf8));
    }

-- the text that comes first may be another
module _ (path : List Element) (t u : List ℕ) (kind raw : Bool) (rest : List Event) (longer : TextAllowed path t kind rest → TextAllowed path u raw rest) (blank : (path ≡ html_path → is_blank t ≡ true) → path ≡ html_path → is_blank u ≡ true) where
  front_longer : (w : List Event) → Becomes path w (text t kind ∷ rest) → Becomes path w (text u raw ∷ rest)
  front_longer [] b = absurd (cc)
  front_longer (doctype legacy ∷ w) (other, more, is, b) = absurd (cc)
  front_longer (start n foreign attributes ∷ w) (made, more, is, allowed, ends, b) = absurd (cc)
  front_longer (text s k ∷ w) (inl b) = inl (front_longer w b)
  front_longer (text s k ∷ w) (inr (x, y, more, is, allowed, here, b)) =
      let bytes : x ≡ t = cc in
      let same_kind : y ≡ kind = cc in
      let same : more ≡ rest = cc in
      let there : TextAllowed path t kind rest = rw (← bytes, ← same_kind, ← same) allowed in
      inr (u, raw, rest, refl, longer there, blank (λ e. rw (← bytes) (here e)), rw (← same) b)
  front_longer (comment s ∷ w) (inl b) = inl (front_longer w b)
  front_longer (comment s ∷ w) (inr (more, is, b)) = absurd (cc)
  front_longer (end n foreign ∷ w) (more, is, b) = absurd (cc)

-- a text before what the events after it become
text_joins : (path : List Element) (s : List ℕ) (raw : Bool) (w x : List Event) → TextAllowed path s raw w → (path ≡ html_path → is_blank s ≡ true) → (begins_text x ≡ true → is_in_text path ≡ false) → Becomes path w x → Becomes path (text s raw ∷ w) (text_before s raw x)
text_joins path s raw w [] a blank outside b = inr (s, raw, [], refl, text_before_others path s raw w [] a refl, blank, b)
text_joins path s raw w (doctype legacy ∷ x) a blank outside b = inr (s, raw, doctype legacy ∷ x, refl, text_before_others path s raw w (doctype legacy ∷ x) a refl, blank, b)
text_joins path s raw w (start n foreign attributes ∷ x) a blank outside b = inr (s, raw, start n foreign attributes ∷ x, refl, text_before_others path s raw w (start n foreign attributes ∷ x) a refl, blank, b)
text_joins path s raw w (text t kind ∷ x) a blank outside b =
    inl (front_longer path t (s ++ t) kind raw x (text_append path s t raw kind w x (outside refl) a) (λ h e. blank_append s t (blank e) (h e)) w b)
text_joins path s raw w (comment c ∷ x) a blank outside b = inr (s, raw, comment c ∷ x, refl, text_before_others path s raw w (comment c ∷ x) a refl, blank, b)
text_joins path s raw w (end n foreign ∷ x) a blank outside b = inr (s, raw, end n foreign ∷ x, refl, text_before_others path s raw w (end n foreign ∷ x) a refl, blank, b)

uncommented_becomes : (path : List Element) (before : Option Event) (w : List Event) → Fine path w → Becomes path w (pushes (rewritten no_comment path before w) [])
uncommented_becomes path before [] h = refl
uncommented_becomes path before (doctype legacy ∷ w) h = (legacy, pushes (rewritten no_comment path (Some (doctype legacy)) w) [], refl, uncommented_becomes path (Some (doctype legacy)) w h)
uncommented_becomes path before (start n foreign attributes ∷ w) h =
    let inside = element_of n foreign ∷ path in
    (attributes, pushes (rewritten no_comment inside (Some (start n foreign attributes)) w) [], refl, h.0, end_before inside (Some (start n foreign attributes)) w, uncommented_becomes inside (Some (start n foreign attributes)) w h.1)
uncommented_becomes path before (text s raw ∷ w) h =
    let x = pushes (rewritten no_comment path (Some (text s raw)) w) [] in
    text_joins path s raw w x h.0 h.1 (joins_outside path (Some (text s raw)) w h.2 h.0.alone) (uncommented_becomes path (Some (text s raw)) w h.2)
uncommented_becomes path before (comment s ∷ w) h = inl (uncommented_becomes path (Some (comment s)) w h.1)
uncommented_becomes [] before (end n foreign ∷ w) h = (pushes (rewritten no_comment [] (Some (end n foreign)) w) [], refl, uncommented_becomes [] (Some (end n foreign)) w h)
uncommented_becomes (e ∷ path) before (end n foreign ∷ w) h = (pushes (rewritten no_comment path (Some (end n foreign)) w) [], refl, uncommented_becomes path (Some (end n foreign)) w h)

pub uncommented_settled : (w : List Event) → Settled w → Settled (uncommented w)
uncommented_settled w h = settled_stays w (uncommented w) h (uncommented_becomes [] None w (settled_is_fine w h))
