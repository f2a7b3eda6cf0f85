-- What the rules of settled walks say of one event, taken apart and put together.
use Rattle.std.proofs.Common.{◌≡◌, ℕ, Bool, true, false, cond, ◌||◌, ◌&&◌, not, List, [], ◌∷◌, ◌++◌, length, nat_le, bytes_eq, refl, sym, ◌∙◌, ap, subst, inl, inr, Option, Some, None}
use Rattle.std.proofs.lemmas.Bool.{and_parts, and_from, or_right, and_right, not-true, eqb-true, eq-eqb, both_ways}
use Rattle.hm_base.specs.Bytes.{is_null}
use Rattle.hm_base.specs.Forms.{has_byte, is_blank, is_tag_name}
use Rattle.hm_base.specs.Walks.{Attribute, Event, start, text, comment, Element, same_flag, has_distinct_names, begins_end, begins_text}
use Rattle.hm_base.specs.declared.limits.TheConstants.{ATTRIBUTE_LIMIT}
use Rattle.hm_elements.specs.Names.{svg}
use Rattle.hm_elements.specs.Tables.{is_root, is_void, is_refused, is_svg_name, holds_svg_text, holds_text}
use Rattle.hm_elements.specs.Paths.{current, is_in_svg, stands_on, head_yields, is_block_in_p, is_nested, is_deep, is_in_raw, is_in_text, is_in_blank}
use Rattle.hm_elements.specs.Settled.{starts_root, no_zero_in_values, raw_text_end, is_place, end_tag, all_names_in_form, nests, is_svg_in_place, closes_void, is_text_in_place, is_raw_text, is_comment_in_form, has_attributes_in_form, is_not_deep, is_event_utf8}
use Rattle.hm_elements.specs.Places.{AttributesAllowed, HtmlAllowed, SvgAllowed, ElementAllowed, StartAllowed, TextAllowed, CommentAllowed}
use Rattle.hm_elements.proofs.TableTools.{same_bytes}
use Rattle.hm_elements.proofs.TableFacts.{svg_is_plain, svg_is_kept, stands_parent, stands_parent_holds}

-- the rules of one event
pub record EventStands (path : List Element) (e : Event) (w : List Event) : Type 0 where
  pub nesting : nests path e w ≡ true
  pub svg : is_svg_in_place path e w ≡ true
  pub voids : closes_void path e w ≡ true
  pub texts : is_text_in_place path e w ≡ true
  pub raw_texts : is_raw_text path e w ≡ true
  pub comments : is_comment_in_form path e w ≡ true
  pub attributes : has_attributes_in_form path e w ≡ true
  pub depth : is_not_deep path e w ≡ true
  pub utf8 : is_event_utf8 path e w ≡ true

pub same_is : (a b : Bool) → same_flag a b ≡ true → a ≡ b
same_is true b h = sym h
same_is false b h = sym (not-true b h)

implied : (a b : Bool) → not a || b ≡ true → a ≡ true → b ≡ true
implied true b h e = h
implied false b h e = cc

place_is : (i : ℕ) (o : Option ℕ) → is_place i o ≡ true → o ≡ Some i
place_is i None h = cc
place_is i (Some k) h = ap (λ n. Some n) (eqb-true k i h)

pub comment_allowed : (path : List Element) (s : List ℕ) (w : List Event) → EventStands path (comment s) w → CommentAllowed path s
unfolding is_text_in_place is_comment_in_form is_event_utf8
comment_allowed path s w st =
    let two = and_parts (not (has_byte 0 s)) (not (is_in_text path)) st.texts in
    record { form = st.comments; no_zero = not-true (has_byte 0 s) two.0; outside = not-true (is_in_text path) two.1; utf8 = st.utf8 }

pub text_allowed : (path : List Element) (s : List ℕ) (raw : Bool) (w : List Event) → EventStands path (text s raw) w → TextAllowed path s raw w
unfolding is_text_in_place is_raw_text is_event_utf8
text_allowed path s raw w st =
    let five = and_parts (not (is_null s) && not (begins_text w) && not (has_byte 0 s) && same_flag raw (is_in_raw path)) (not (is_in_blank path) || is_blank s) st.texts in
    let four = and_parts (not (is_null s) && not (begins_text w) && not (has_byte 0 s)) (same_flag raw (is_in_raw path)) five.0 in
    let three = and_parts (not (is_null s) && not (begins_text w)) (not (has_byte 0 s)) four.0 in
    let two = and_parts (not (is_null s)) (not (begins_text w)) three.0 in
    let raw_parts = λ (e : raw ≡ true). and_parts (not (has_byte 13 s)) (is_place (length s) (raw_text_end (current path) (s ++ end_tag (current path)))) (implied raw _ st.raw_texts e) in
    record {
      not_empty = not-true (is_null s) two.0;
      alone = not-true (begins_text w) two.1;
      no_zero = not-true (has_byte 0 s) three.1;
      kind = same_is raw (is_in_raw path) four.1;
      blank = implied (is_in_blank path) (is_blank s) five.1;
      no_return = λ e. not-true (has_byte 13 s) (raw_parts e).0;
      ends = λ e. place_is (length s) (raw_text_end (current path) (s ++ end_tag (current path))) (raw_parts e).1;
      utf8 = st.utf8;
    }

pub attributes_allowed : (path : List Element) (n : List ℕ) (foreign : Bool) (attributes : List Attribute) (w : List Event) → EventStands path (start n foreign attributes) w → AttributesAllowed attributes
unfolding is_text_in_place has_attributes_in_form is_event_utf8
attributes_allowed path n foreign attributes w st =
    let two = and_parts (nat_le (length attributes) ATTRIBUTE_LIMIT && has_distinct_names attributes) (all_names_in_form attributes) st.attributes in
    let one = and_parts (nat_le (length attributes) ATTRIBUTE_LIMIT) (has_distinct_names attributes) two.0 in
    record { few = one.0; distinct = one.1; names = two.1; no_zero = (and_parts (no_zero_in_values attributes) (not (is_in_text path)) st.texts).0; utf8 = st.utf8 }

-- an element of HTML in one of HTML
html_allowed : (path : List Element) (n : List ℕ) (attributes : List Attribute) (w : List Event) → bytes_eq n svg ≡ false → is_in_svg path ≡ false → is_root n ≡ false → EventStands path (start n false attributes) w → HtmlAllowed n false path w
unfolding nests closes_void
html_allowed path n attributes w no_svg outside no_root st =
    let all : not (is_in_svg path) && is_tag_name n && not (is_refused n) && stands_on n path && not (head_yields path n) && not (is_block_in_p n path) && not (is_nested n path) ≡ true = rw no_root at st.nesting in
    let six = and_parts (not (is_in_svg path) && is_tag_name n && not (is_refused n) && stands_on n path && not (head_yields path n) && not (is_block_in_p n path)) (not (is_nested n path)) all in
    let five = and_parts (not (is_in_svg path) && is_tag_name n && not (is_refused n) && stands_on n path && not (head_yields path n)) (not (is_block_in_p n path)) six.0 in
    let four = and_parts (not (is_in_svg path) && is_tag_name n && not (is_refused n) && stands_on n path) (not (head_yields path n)) five.0 in
    let three = and_parts (not (is_in_svg path) && is_tag_name n && not (is_refused n)) (stands_on n path) four.0 in
    let two = and_parts (not (is_in_svg path) && is_tag_name n) (not (is_refused n)) three.0 in
    record {
      kind = sym no_svg;
      name = (and_parts (not (is_in_svg path)) (is_tag_name n) two.0).1;
      known = not-true (is_refused n) two.1;
      stands = three.1;
      kept = not-true (head_yields path n) four.1;
      no_block_in_p = not-true (is_block_in_p n path) five.1;
      not_nested = not-true (is_nested n path) six.1;
      void_is_closed = implied (is_void n) (begins_end w) st.voids;
    }

head_keeps_svg : (path : List Element) → stands_on svg path ≡ true → head_yields path svg ≡ false
head_keeps_svg [] h = refl
head_keeps_svg (e ∷ path) h = svg_is_kept e.name _ h

-- svg in an element of HTML
svg_allowed : (path : List Element) (n : List ℕ) (w : List Event) → n ≡ svg → stands_on svg path ≡ true → HtmlAllowed n true path w
svg_allowed path n w is h =
    let plain = svg_is_plain in
    rw is (record {
      kind = refl;
      name = plain.name;
      known = plain.known;
      stands = h;
      kept = head_keeps_svg path h;
      no_block_in_p = plain.no_block_in_p path;
      not_nested = plain.not_nested path;
      void_is_closed = λ e. absurd (both_ways (is_void svg) plain.not_void e);
    })

or_false : (b : Bool) → b || false ≡ b
or_false true = refl
or_false false = refl

-- below an element of SVG
below_svg : (path : List Element) (n : List ℕ) (foreign : Bool) → is_in_svg path ≡ true → same_flag foreign (bytes_eq n svg || is_in_svg path) ≡ true → cond (is_in_svg path) (is_svg_name n && not (holds_svg_text (current path))) (not foreign || stands_on svg path) ≡ true → SvgAllowed n foreign path
below_svg path n foreign e kind place =
    let two = and_parts (is_svg_name n) (not (holds_svg_text (current path))) (rw e at place) in
    record { kind = same_is foreign (bytes_eq n svg || is_in_svg path) kind ∙ or_right (bytes_eq n svg) (is_in_svg path) e; name = two.0; parent = not-true (holds_svg_text (current path)) two.1 }

-- outside of SVG an element is one of SVG exactly where it is svg
outside_svg : (path : List Element) (n : List ℕ) (foreign : Bool) → is_in_svg path ≡ false → same_flag foreign (bytes_eq n svg || is_in_svg path) ≡ true → foreign ≡ bytes_eq n svg
outside_svg path n foreign e kind = same_is foreign (bytes_eq n svg || is_in_svg path) kind ∙ (rw e (or_false (bytes_eq n svg)))

element_allowed : (path : List Element) (n : List ℕ) (foreign : Bool) (attributes : List Attribute) (w : List Event) → starts_root (start n foreign attributes) ≡ false → EventStands path (start n foreign attributes) w → ElementAllowed n foreign path w
unfolding is_svg_in_place
element_allowed path n foreign attributes w no_root st = by (is_in_svg path) refl foreign no_root st
  where
    by : (b : Bool) → is_in_svg path ≡ b → (f : Bool) → starts_root (start n f attributes) ≡ false → EventStands path (start n f attributes) w → ElementAllowed n f path w
    by true e f no_root st =
        let two = and_parts (same_flag f (bytes_eq n svg || is_in_svg path)) (cond (is_in_svg path) (is_svg_name n && not (holds_svg_text (current path))) (not f || stands_on svg path)) st.svg in
        inl (e, below_svg path n f e two.0 two.1)
    by false e true no_root st =
        let two = and_parts (same_flag true (bytes_eq n svg || is_in_svg path)) (cond (is_in_svg path) (is_svg_name n && not (holds_svg_text (current path))) (stands_on svg path)) st.svg in
        inr (e, svg_allowed path n w (same_bytes n svg (sym (outside_svg path n true e two.0))) (rw e at two.1))
    by false e false no_root st =
        let two = and_parts (same_flag false (bytes_eq n svg || is_in_svg path)) (cond (is_in_svg path) (is_svg_name n && not (holds_svg_text (current path))) true) st.svg in
        inr (e, html_allowed path n attributes w (sym (outside_svg path n false e two.0)) e no_root st)

pub start_allowed : (path : List Element) (n : List ℕ) (foreign : Bool) (attributes : List Attribute) (w : List Event) → starts_root (start n foreign attributes) ≡ false → EventStands path (start n foreign attributes) w → StartAllowed n foreign attributes path w
unfolding is_not_deep
start_allowed path n foreign attributes w no_root st = record {
  element = element_allowed path n foreign attributes w no_root st;
  attributes_allowed = attributes_allowed path n foreign attributes w st;
  not_deep = not-true (is_deep (record { name = n; foreign = foreign } ∷ path)) st.depth;
}

-- The other way: from what is allowed to the rules.
pub is_same : (a b : Bool) → a ≡ b → same_flag a b ≡ true
is_same true b e = sym e
is_same false b e = ap not (sym e)

is_implied : (a b : Bool) → (a ≡ true → b ≡ true) → not a || b ≡ true
is_implied true b h = h refl
is_implied false b h = refl

is_at : (i : ℕ) (o : Option ℕ) → o ≡ Some i → is_place i o ≡ true
is_at i o e = rw e (eq-eqb i i refl)

pub comment_stands : (path : List Element) (s : List ℕ) (w : List Event) → CommentAllowed path s → EventStands path (comment s) w
unfolding nests is_svg_in_place closes_void is_text_in_place is_raw_text is_comment_in_form has_attributes_in_form is_not_deep is_event_utf8
comment_stands path s w a = record {
  nesting = refl;
  svg = refl;
  voids = refl;
  texts = rw (a.no_zero, a.outside) refl;
  raw_texts = refl;
  comments = a.form;
  attributes = refl;
  depth = refl;
  utf8 = a.utf8;
}

pub text_stands : (path : List Element) (s : List ℕ) (raw : Bool) (w : List Event) → TextAllowed path s raw w → EventStands path (text s raw) w
unfolding nests is_svg_in_place closes_void is_text_in_place is_raw_text is_comment_in_form has_attributes_in_form is_not_deep is_event_utf8
text_stands path s raw w a = record {
  nesting = refl;
  svg = refl;
  voids = refl;
  texts = rw (a.not_empty, a.alone, a.no_zero, is_same raw (is_in_raw path) a.kind, is_implied (is_in_blank path) (is_blank s) a.blank) refl;
  raw_texts = is_implied raw _ (λ e. rw (a.no_return e, is_at (length s) (raw_text_end (current path) (s ++ end_tag (current path))) (a.ends e)) refl);
  comments = refl;
  attributes = refl;
  depth = refl;
  utf8 = a.utf8;
}

svg_outside_text : (path : List Element) → is_in_svg path ≡ true → is_in_text path ≡ false
svg_outside_text [] h = refl
svg_outside_text (e ∷ path) h = rw h refl

stands_outside_text : (path : List Element) (n : List ℕ) → stands_on n path ≡ true → is_in_text path ≡ false
stands_outside_text [] n h = refl
stands_outside_text (e ∷ path) n h = and_right (not e.foreign) (holds_text e.name) (stands_parent_holds n e.name _ h).no_text

element_outside_text : (path : List Element) (n : List ℕ) (foreign : Bool) (w : List Event) → ElementAllowed n foreign path w → is_in_text path ≡ false
element_outside_text path n foreign w (inl (e, s)) = svg_outside_text path e
element_outside_text path n foreign w (inr (e, h)) = stands_outside_text path n h.stands

element_is_svg : (path : List Element) (n : List ℕ) (foreign : Bool) (w : List Event) → ElementAllowed n foreign path w → same_flag foreign (bytes_eq n svg || is_in_svg path) && cond (is_in_svg path) (is_svg_name n && not (holds_svg_text (current path))) (not foreign || stands_on svg path) ≡ true
element_is_svg path n foreign w (inl (e, s)) =
    and_from (same_flag foreign (bytes_eq n svg || is_in_svg path)) _ (is_same foreign (bytes_eq n svg || is_in_svg path) (s.kind ∙ sym (or_right (bytes_eq n svg) (is_in_svg path) e))) (rw (e, s.name, s.parent) refl)
element_is_svg path n foreign w (inr (e, h)) =
    let in_svg : is_svg_here → stands_on svg path ≡ true = λ f. subst (λ m. stands_on m path ≡ true) (same_bytes n svg (sym h.kind ∙ f)) h.stands in
    and_from (same_flag foreign (bytes_eq n svg || is_in_svg path)) _ (is_same foreign (bytes_eq n svg || is_in_svg path) (h.kind ∙ sym (rw e (or_false (bytes_eq n svg))))) (rw e (is_implied foreign (stands_on svg path) in_svg))
  where
    is_svg_here : Type 0
    is_svg_here = foreign ≡ true

nests_from : (root all : Bool) → all ≡ true → cond root true all ≡ true
nests_from true all h = refl
nests_from false all h = h

element_nests : (path : List Element) (n : List ℕ) (foreign : Bool) (attributes : List Attribute) (w : List Event) → ElementAllowed n foreign path w → nests path (start n foreign attributes) w ≡ true
unfolding nests
element_nests path n foreign attributes w (inl (e, s)) = rw s.kind refl
element_nests path n true attributes w (inr (e, h)) = refl
element_nests path n false attributes w (inr (e, h)) = nests_from (is_root n) _ (rw (e, h.name, h.known, h.stands, h.kept, h.no_block_in_p, h.not_nested) refl)

voids_from : (f v b : Bool) → (v ≡ true → b ≡ true) → (f || not v) || b ≡ true
voids_from true v b h = refl
voids_from false true b h = h refl
voids_from false false b h = refl

element_closes : (path : List Element) (n : List ℕ) (foreign : Bool) (w : List Event) → ElementAllowed n foreign path w → (foreign || not (is_void n)) || begins_end w ≡ true
element_closes path n foreign w (inl (e, s)) = rw s.kind refl
element_closes path n foreign w (inr (e, h)) = voids_from foreign (is_void n) (begins_end w) h.void_is_closed

pub start_stands : (path : List Element) (n : List ℕ) (foreign : Bool) (attributes : List Attribute) (w : List Event) → StartAllowed n foreign attributes path w → EventStands path (start n foreign attributes) w
unfolding is_svg_in_place closes_void is_text_in_place is_raw_text is_comment_in_form has_attributes_in_form is_not_deep is_event_utf8
start_stands path n foreign attributes w a =
    let all = a.attributes_allowed in
    record {
      nesting = element_nests path n foreign attributes w a.element;
      svg = element_is_svg path n foreign w a.element;
      voids = element_closes path n foreign w a.element;
      texts = rw (all.no_zero, element_outside_text path n foreign w a.element) refl;
      raw_texts = refl;
      comments = refl;
      attributes = rw (all.few, all.distinct, all.names) refl;
      depth = rw a.not_deep refl;
      utf8 = all.utf8;
    }

-- an element does not open by a root's name in head and body
pub start_is_no_root : (path : List Element) (n : List ℕ) (foreign : Bool) (attributes : List Attribute) (w : List Event) → ElementAllowed n foreign path w → starts_root (start n foreign attributes) ≡ false
start_is_no_root path n foreign attributes w (inl (e, s)) = rw s.kind refl
start_is_no_root [] n foreign attributes w (inr (e, h)) = let k : false ≡ true = h.stands in cc
start_is_no_root (m ∷ path) n foreign attributes w (inr (e, h)) = and_right (not foreign) (is_root n) (stands_parent n m.name _ h.stands).is_no_root
