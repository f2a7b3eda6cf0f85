-- A tree that differs from a settled one in the order of attributes alone is settled.
use Rattle.std.proofs.Common.{◌≡◌, ◌+◌, ◌≤◌, ℕ, Bool, true, false, cond, not, ◌&&◌, List, [], ◌∷◌, length, nat_le, Option, Some, None, refl, sym, ap, ap₂, ◌∙◌, subst, arith, bytes_eq}
use Rattle.std.specs.Prelude.{IsPermutation, All, sum_by}
use Rattle.std.specs.Str.{is_utf8}
use Rattle.std.proofs.lemmas.Bool.{and_parts}
use Rattle.std.proofs.lemmas.List.Elements.{All-nil, All-cons, All-head, All-tail}
use Rattle.std.proofs.lemmas.List.Sums.{sum_by-cons}
use Rattle.std.proofs.lemmas.List.Sorted.{sum_by-IsPermutation, All-permutation}
use Rattle.hm_base.specs.Forms.{has_byte, is_attribute_name}
use Rattle.hm_base.specs.Walks.{Attribute, Event, doctype, start, text, comment, end, Element, path_after_event, path_after, ends_match, begins_end, begins_text, has_name, has_distinct_names}
use Rattle.hm_elements.specs.Settled.{Top, Frame, no_html, all_there, no_body, has_body, has_top, has_frame, go_on, next_top, next_frame, is_doctype, starts_root, starts_inner_root, all_events, nests, is_svg_in_place, closes_void, is_text_in_place, is_raw_text, is_comment_in_form, has_attributes_in_form, is_not_deep, is_event_utf8, no_zero_in_values, all_names_in_form, all_utf8, Settled, no_doctype, no_head}
use Rattle.hm_base.specs.declared.limits.TheConstants.{ATTRIBUTE_LIMIT}
use Rattle.hm_elements.proofs.TableTools.{eq_self, same_bytes}
use Rattle.hm_order.specs.Orders.{Like}
use Rattle.hm_order.proofs.Walks.{bare, bare_like, ends_bare, matches_bare}

-- ---- Attributes in another order

-- a test of each attribute
by_all : (P : Attribute → Bool) (q : List Attribute → Bool) → (q [] ≡ true) → ((a : Attribute) (rest : List Attribute) → q (a ∷ rest) ≡ (P a && q rest)) → (xs ys : List Attribute) → IsPermutation xs ys → q xs ≡ true → q ys ≡ true
by_all P q none more xs ys same h = from ys (All-permutation (λ a. P a ≡ true) xs ys same (to xs h))
  where
    to : (xs : List Attribute) → q xs ≡ true → All (λ a. P a ≡ true) xs
    to [] h = All-nil (λ a. P a ≡ true)
    to (a ∷ xs) h = let two = and_parts (P a) (q xs) (sym (more a xs) ∙ h) in All-cons (λ a. P a ≡ true) a xs two.0 (to xs two.1)

    from : (xs : List Attribute) → All (λ a. P a ≡ true) xs → q xs ≡ true
    from [] h = none
    from (a ∷ xs) h = more a xs ∙ ap₂ (λ x y. x && y) (All-head (λ a. P a ≡ true) a xs h) (from xs (All-tail (λ a. P a ≡ true) a xs h))

no_zero_like : (xs ys : List Attribute) → IsPermutation xs ys → no_zero_in_values xs ≡ true → no_zero_in_values ys ≡ true
no_zero_like = by_all (λ a. not (has_byte 0 a.value)) no_zero_in_values refl (λ a xs. refl)

names_like : (xs ys : List Attribute) → IsPermutation xs ys → all_names_in_form xs ≡ true → all_names_in_form ys ≡ true
names_like = by_all (λ a. is_attribute_name a.name) all_names_in_form refl (λ a xs. refl)

utf8_like : (xs ys : List Attribute) → IsPermutation xs ys → all_utf8 xs ≡ true → all_utf8 ys ≡ true
utf8_like = by_all (λ a. is_utf8 a.name && is_utf8 a.value) all_utf8 refl (λ a xs. refl)

-- how many have a name
abbrev named : List ℕ → Attribute → ℕ
named n a = cond (bytes_eq a.name n) 1 0

none_named : (n : List ℕ) (xs : List Attribute) → has_name n xs ≡ false → sum_by (named n) xs ≡ 0
none_named n [] h = refl
none_named n (a ∷ xs) h = by (bytes_eq a.name n) refl h (λ k. none_named n xs k)
  where
    by : (b : Bool) → bytes_eq a.name n ≡ b → cond b true (has_name n xs) ≡ false → (has_name n xs ≡ false → sum_by (named n) xs ≡ 0) → sum_by (named n) (a ∷ xs) ≡ 0
    by true e h more = cc
    by false e h more = sum_by-cons (named n) a xs ∙ ap₂ (λ x y. x + y) (ap (λ b. cond b 1 0) e) (more h)

not_named : (n : List ℕ) (xs : List Attribute) → sum_by (named n) xs ≡ 0 → has_name n xs ≡ false
not_named n [] h = refl
not_named n (a ∷ xs) h = by (bytes_eq a.name n) refl (λ k. not_named n xs k)
  where
    by : (b : Bool) → bytes_eq a.name n ≡ b → (sum_by (named n) xs ≡ 0 → has_name n xs ≡ false) → cond b true (has_name n xs) ≡ false
    by true e more = absurd (let c = sum_by-cons (named n) a xs in let d : named n a ≡ 1 = ap (λ b. cond b 1 0) e in omega (arith, c, d, h))
    by false e more = more (let c = sum_by-cons (named n) a xs in omega (arith, c, h))

once : (n : List ℕ) (xs : List Attribute) → has_distinct_names xs ≡ true → sum_by (named n) xs ≤ 1
once n [] h = omega arith
once n (a ∷ xs) h = by (bytes_eq a.name n) refl (once n xs two.1)
  where
    two : (not (has_name a.name xs) ≡ true) × (has_distinct_names xs ≡ true)
    two = and_parts (not (has_name a.name xs)) (has_distinct_names xs) h

    by : (b : Bool) → bytes_eq a.name n ≡ b → sum_by (named n) xs ≤ 1 → sum_by (named n) (a ∷ xs) ≤ 1
    by true e more =
        let none : has_name n xs ≡ false = subst (λ m. has_name m xs ≡ false) (same_bytes a.name n e) (no (has_name a.name xs) two.0) in
        let c = sum_by-cons (named n) a xs in let d : named n a ≡ 1 = ap (λ b. cond b 1 0) e in let z = none_named n xs none in omega (arith, c, d, z)
      where
        no : (b : Bool) → not b ≡ true → b ≡ false
        no true h = cc
        no false h = refl
    by false e z = let c = sum_by-cons (named n) a xs in let d : named n a ≡ 0 = ap (λ b. cond b 1 0) e in omega (arith, c, d, z)

distinct : (xs : List Attribute) → ((n : List ℕ) → sum_by (named n) xs ≤ 1) → has_distinct_names xs ≡ true
distinct [] h = refl
distinct (a ∷ xs) h =
    let c = sum_by-cons (named a.name) a xs in
    let d : named a.name a ≡ 1 = ap (λ b. cond b 1 0) (eq_self a.name) in
    let k = h a.name in
    ap₂ (λ x y. not x && y) (not_named a.name xs (omega (arith, c, d, k))) (distinct xs (λ n. let c = sum_by-cons (named n) a xs in let k = h n in omega (arith, c, k)))

pub distinct_like : (xs ys : List Attribute) → IsPermutation xs ys → has_distinct_names xs ≡ true → has_distinct_names ys ≡ true
distinct_like xs ys same h = distinct ys (λ n. let c = sum_by-IsPermutation (named n) xs ys same in let k = once n xs h in omega (arith, c, k))

counted : (xs : List Attribute) → sum_by (λ a. 1) xs ≡ length xs
counted [] = refl
counted (a ∷ xs) = sum_by-cons (λ (a : Attribute). 1) a xs ∙ (let k = counted xs in omega (arith, k))

pub length_like : (xs ys : List Attribute) → IsPermutation xs ys → length ys ≡ length xs
length_like xs ys same = sym (counted ys) ∙ sum_by-IsPermutation (λ (a : Attribute). 1) xs ys same ∙ counted xs

-- ---- Tests of events

-- what follows is asked for its kind alone, and the attributes of a tag in any order
record Keeps (test : List Element → Event → List Event → Bool) : Type 0 where
  tail : (path : List Element) (e : Event) (w v : List Event) → bare w ≡ bare v → test path e w ≡ true → test path e v ≡ true
  order : (path : List Element) (n : List ℕ) (f : Bool) (xs ys : List Attribute) (w : List Event) → IsPermutation xs ys → test path (start n f xs) w ≡ true → test path (start n f ys) w ≡ true

text_bare : (w : List Event) → begins_text w ≡ begins_text (bare w)
text_bare [] = refl
text_bare (doctype legacy ∷ w) = refl
text_bare (start n foreign attributes ∷ w) = refl
text_bare (text s raw ∷ w) = refl
text_bare (comment s ∷ w) = refl
text_bare (end n foreign ∷ w) = refl

tails : (q : List Event → Bool) → ((w : List Event) → q w ≡ q (bare w)) → (w v : List Event) → bare w ≡ bare v → q w ≡ q v
tails q h w v e = h w ∙ ap q e ∙ sym (h v)

keeps_nests : Keeps nests
unfolding nests
keeps_nests = record { tail = t; order = λ path n f xs ys w same h. h }
  where
    t : (path : List Element) (e : Event) (w v : List Event) → bare w ≡ bare v → nests path e w ≡ true → nests path e v ≡ true
    t path (doctype legacy) w v e h = h
    t path (start n f xs) w v e h = h
    t path (text s raw) w v e h = h
    t path (comment s) w v e h = h
    t path (end n f) w v e h = h

keeps_svg : Keeps is_svg_in_place
unfolding is_svg_in_place
keeps_svg = record { tail = t; order = λ path n f xs ys w same h. h }
  where
    t : (path : List Element) (e : Event) (w v : List Event) → bare w ≡ bare v → is_svg_in_place path e w ≡ true → is_svg_in_place path e v ≡ true
    t path (doctype legacy) w v e h = h
    t path (start n f xs) w v e h = h
    t path (text s raw) w v e h = h
    t path (comment s) w v e h = h
    t path (end n f) w v e h = h

keeps_voids : Keeps closes_void
unfolding closes_void
keeps_voids = record { tail = t; order = λ path n f xs ys w same h. h }
  where
    t : (path : List Element) (e : Event) (w v : List Event) → bare w ≡ bare v → closes_void path e w ≡ true → closes_void path e v ≡ true
    t path (doctype legacy) w v e h = h
    t path (start n f xs) w v e h = rw (sym (tails begins_end ends_bare w v e)) h
    t path (text s raw) w v e h = h
    t path (comment s) w v e h = h
    t path (end n f) w v e h = h

keeps_texts : Keeps is_text_in_place
unfolding is_text_in_place
keeps_texts = record { tail = t; order = λ path n f xs ys w same h. let two = and_parts (no_zero_in_values xs) _ h in ap₂ (λ x y. x && y) (no_zero_like xs ys same two.0) two.1 }
  where
    t : (path : List Element) (e : Event) (w v : List Event) → bare w ≡ bare v → is_text_in_place path e w ≡ true → is_text_in_place path e v ≡ true
    t path (doctype legacy) w v e h = h
    t path (start n f xs) w v e h = h
    t path (text s raw) w v e h = rw (sym (tails begins_text text_bare w v e)) h
    t path (comment s) w v e h = h
    t path (end n f) w v e h = h

keeps_raw : Keeps is_raw_text
unfolding is_raw_text
keeps_raw = record { tail = t; order = λ path n f xs ys w same h. h }
  where
    t : (path : List Element) (e : Event) (w v : List Event) → bare w ≡ bare v → is_raw_text path e w ≡ true → is_raw_text path e v ≡ true
    t path (doctype legacy) w v e h = h
    t path (start n f xs) w v e h = h
    t path (text s raw) w v e h = h
    t path (comment s) w v e h = h
    t path (end n f) w v e h = h

keeps_comments : Keeps is_comment_in_form
unfolding is_comment_in_form
keeps_comments = record { tail = t; order = λ path n f xs ys w same h. h }
  where
    t : (path : List Element) (e : Event) (w v : List Event) → bare w ≡ bare v → is_comment_in_form path e w ≡ true → is_comment_in_form path e v ≡ true
    t path (doctype legacy) w v e h = h
    t path (start n f xs) w v e h = h
    t path (text s raw) w v e h = h
    t path (comment s) w v e h = h
    t path (end n f) w v e h = h

keeps_attributes : Keeps has_attributes_in_form
unfolding has_attributes_in_form
keeps_attributes = record {
  tail = t;
  order = λ path n f xs ys w same h.
      let two = and_parts (nat_le (length xs) ATTRIBUTE_LIMIT && has_distinct_names xs) (all_names_in_form xs) h in
      let more = and_parts (nat_le (length xs) ATTRIBUTE_LIMIT) (has_distinct_names xs) two.0 in
      ap₂ (λ x y. x && y) (ap₂ (λ x y. x && y) (ap (λ k. nat_le k ATTRIBUTE_LIMIT) (length_like xs ys same) ∙ more.0) (distinct_like xs ys same more.1)) (names_like xs ys same two.1);
}
  where
    t : (path : List Element) (e : Event) (w v : List Event) → bare w ≡ bare v → has_attributes_in_form path e w ≡ true → has_attributes_in_form path e v ≡ true
    t path (doctype legacy) w v e h = h
    t path (start n f xs) w v e h = h
    t path (text s raw) w v e h = h
    t path (comment s) w v e h = h
    t path (end n f) w v e h = h

keeps_depth : Keeps is_not_deep
unfolding is_not_deep
keeps_depth = record { tail = t; order = λ path n f xs ys w same h. h }
  where
    t : (path : List Element) (e : Event) (w v : List Event) → bare w ≡ bare v → is_not_deep path e w ≡ true → is_not_deep path e v ≡ true
    t path (doctype legacy) w v e h = h
    t path (start n f xs) w v e h = h
    t path (text s raw) w v e h = h
    t path (comment s) w v e h = h
    t path (end n f) w v e h = h

keeps_utf8 : Keeps is_event_utf8
unfolding is_event_utf8
keeps_utf8 = record { tail = t; order = λ path n f xs ys w same h. utf8_like xs ys same h }
  where
    t : (path : List Element) (e : Event) (w v : List Event) → bare w ≡ bare v → is_event_utf8 path e w ≡ true → is_event_utf8 path e v ≡ true
    t path (doctype legacy) w v e h = h
    t path (start n f xs) w v e h = h
    t path (text s raw) w v e h = h
    t path (comment s) w v e h = h
    t path (end n f) w v e h = h

module _ (test : List Element → Event → List Event → Bool) (keeps : Keeps test) where
  all_with : (e d : Event) (w v : List Event) → e ≡ d → Like w v → ((path : List Element) → all_events test path w ≡ true → all_events test path v ≡ true) → (path : List Element) → all_events test path (e ∷ w) ≡ true → all_events test path (d ∷ v) ≡ true
  all_with e d w v is like more path h =
      let two = and_parts (test path e w) (all_events test (path_after_event path e) w) h in
      subst (λ x. all_events test path (x ∷ v) ≡ true) is (ap₂ (λ x y. x && y) (keeps.tail path e w v (bare_like w v like) two.0) (more (path_after_event path e) two.1))

  all_like : (w v : List Event) → Like w v → (path : List Element) → all_events test path w ≡ true → all_events test path v ≡ true
  all_like [] [] like path h = refl
  all_like [] (d ∷ v) like path h = elim like [ ]
  all_like (e ∷ w) [] like path h = elim like [ ]
  all_like (doctype legacy ∷ w) (d ∷ v) (is, like) path h = all_with (doctype legacy) d w v is like (all_like w v like) path h
  all_like (text s raw ∷ w) (d ∷ v) (is, like) path h = all_with (text s raw) d w v is like (all_like w v like) path h
  all_like (comment s ∷ w) (d ∷ v) (is, like) path h = all_with (comment s) d w v is like (all_like w v like) path h
  all_like (end n f ∷ w) (d ∷ v) (is, like) path h = all_with (end n f) d w v is like (all_like w v like) path h
  all_like (start n f xs ∷ w) (start m o ys ∷ v) ((a, b, same), like) path h =
      let two = and_parts (test path (start n f xs) w) (all_events test (path_after_event path (start n f xs)) w) h in
      subst (λ x. all_events test path (start x o ys ∷ v) ≡ true) a (subst (λ x. all_events test path (start n x ys ∷ v) ≡ true) b
      (ap₂ (λ x y. x && y) (keeps.order path n f xs ys v same (keeps.tail path (start n f xs) w v (bare_like w v like) two.0)) (all_like w v like (path_after_event path (start n f xs)) two.1)))
  all_like (start n f xs ∷ w) (doctype legacy ∷ v) (is, like) path h = cc
  all_like (start n f xs ∷ w) (text s raw ∷ v) (is, like) path h = cc
  all_like (start n f xs ∷ w) (comment s ∷ v) (is, like) path h = cc
  all_like (start n f xs ∷ w) (end k o ∷ v) (is, like) path h = cc

-- ---- What asks for no attributes

after_bare : (w : List Event) (path : List Element) → path_after path w ≡ path_after path (bare w)
after_bare [] path = refl
after_bare (doctype legacy ∷ w) path = after_bare w path
after_bare (start n f xs ∷ w) path = after_bare w (record { name = n; foreign = f } ∷ path)
after_bare (text s raw ∷ w) path = after_bare w path
after_bare (comment s ∷ w) path = after_bare w path
after_bare (end n f ∷ w) [] = after_bare w []
after_bare (end n f ∷ w) (e ∷ path) = after_bare w path

-- an event without its attributes
abbrev bare_event : Event → Event
bare_event (doctype legacy) = doctype legacy
bare_event (start n f xs) = start n f []
bare_event (text s raw) = text s raw
bare_event (comment s) = comment s
bare_event (end n f) = end n f

bare_cons : (e : Event) (w : List Event) → bare (e ∷ w) ≡ bare_event e ∷ bare w
bare_cons (doctype legacy) w = refl
bare_cons (start n f xs) w = refl
bare_cons (text s raw) w = refl
bare_cons (comment s) w = refl
bare_cons (end n f) w = refl

path_after_bare : (path : List Element) (e : Event) → path_after_event path e ≡ path_after_event path (bare_event e)
path_after_bare path (doctype legacy) = refl
path_after_bare path (start n f xs) = refl
path_after_bare path (text s raw) = refl
path_after_bare path (comment s) = refl
path_after_bare path (end n f) = refl

top_bare : (t : Top) (e : Event) → next_top t e ≡ next_top t (bare_event e)
top_bare t (doctype legacy) = refl
top_bare no_doctype (start n f xs) = refl
top_bare no_html (start n f xs) = refl
top_bare all_there (start n f xs) = refl
top_bare t (text s raw) = refl
top_bare t (comment s) = refl
top_bare t (end n f) = refl

frame_bare : (t : Frame) (e : Event) → next_frame t e ≡ next_frame t (bare_event e)
frame_bare t (doctype legacy) = refl
frame_bare no_head (start n f xs) = refl
frame_bare no_body (start n f xs) = refl
frame_bare has_body (start n f xs) = refl
frame_bare t (text s raw) = refl
frame_bare t (comment s) = refl
frame_bare t (end n f) = refl

flag_bare : (q : Event → Bool) → ((n : List ℕ) (f : Bool) (xs : List Attribute) → q (start n f xs) ≡ q (start n f [])) → (e : Event) → q e ≡ q (bare_event e)
flag_bare q h (doctype legacy) = refl
flag_bare q h (start n f xs) = h n f xs
flag_bare q h (text s raw) = refl
flag_bare q h (comment s) = refl
flag_bare q h (end n f) = refl

go_on_same : {A : Type 0} (o p : Option A) (f g : A → Bool) → o ≡ p → ((a : A) → f a ≡ g a) → go_on o f ≡ go_on p g
go_on_same {A} o p f g e h = rw e (by p)
  where
    by : (p : Option A) → go_on p f ≡ go_on p g
    by None = refl
    by (Some a) = h a

has_top_bare : (w : List Event) (t : Top) (path : List Element) → has_top t path w ≡ has_top t path (bare w)
has_top_bare [] t path = refl
has_top_bare (e ∷ w) t [] =
    go_on_same (next_top t e) (next_top t (bare_event e)) (λ next. has_top next (path_after_event [] e) w) (λ next. has_top next (path_after_event [] (bare_event e)) (bare w)) (top_bare t e)
    (λ next. has_top_bare w next (path_after_event [] e) ∙ ap (λ p. has_top next p (bare w)) (path_after_bare [] e)) ∙ ap (has_top t []) (sym (bare_cons e w))
has_top_bare (e ∷ w) t (m ∷ path) =
    ap₂ (λ x y. not x && y) (flag_bare is_doctype (λ n f xs. refl) e) (has_top_bare w t (path_after_event (m ∷ path) e) ∙ ap (λ p. has_top t p (bare w)) (path_after_bare (m ∷ path) e)) ∙ ap (has_top t (m ∷ path)) (sym (bare_cons e w))

has_frame_bare : (w : List Event) (t : Frame) (path : List Element) → has_frame t path w ≡ has_frame t path (bare w)
has_frame_bare [] t path = refl
has_frame_bare (e ∷ w) t [] =
    ap₂ (λ x y. not x && y) (flag_bare starts_inner_root (λ n f xs. refl) e) (has_frame_bare w no_head (path_after_event [] e) ∙ ap (λ p. has_frame no_head p (bare w)) (path_after_bare [] e)) ∙ ap (has_frame t []) (sym (bare_cons e w))
has_frame_bare (e ∷ w) t (m ∷ []) =
    go_on_same (next_frame t e) (next_frame t (bare_event e)) (λ next. has_frame next (path_after_event (m ∷ []) e) w) (λ next. has_frame next (path_after_event (m ∷ []) (bare_event e)) (bare w)) (frame_bare t e)
    (λ next. has_frame_bare w next (path_after_event (m ∷ []) e) ∙ ap (λ p. has_frame next p (bare w)) (path_after_bare (m ∷ []) e)) ∙ ap (has_frame t (m ∷ [])) (sym (bare_cons e w))
has_frame_bare (e ∷ w) t (m ∷ k ∷ path) =
    ap₂ (λ x y. not x && y) (flag_bare starts_root (λ n f xs. refl) e) (has_frame_bare w t (path_after_event (m ∷ k ∷ path) e) ∙ ap (λ p. has_frame t p (bare w)) (path_after_bare (m ∷ k ∷ path) e)) ∙ ap (has_frame t (m ∷ k ∷ path)) (sym (bare_cons e w))

-- ---- The law

pub like_settled : (w v : List Event) → Like w v → Settled w → Settled v
like_settled w v like h =
    let b : bare v ≡ bare w = sym (bare_like w v like) in
    record {
      ends = matches_bare [] v ∙ ap (ends_match []) b ∙ sym (matches_bare [] w) ∙ h.ends;
      closed = after_bare v [] ∙ ap (path_after []) b ∙ sym (after_bare w []) ∙ h.closed;
      top = has_top_bare v no_doctype [] ∙ ap (has_top no_doctype []) b ∙ sym (has_top_bare w no_doctype []) ∙ h.top;
      frame = has_frame_bare v no_head [] ∙ ap (has_frame no_head []) b ∙ sym (has_frame_bare w no_head []) ∙ h.frame;
      nesting = all_like nests keeps_nests w v like [] h.nesting;
      svg = all_like is_svg_in_place keeps_svg w v like [] h.svg;
      voids = all_like closes_void keeps_voids w v like [] h.voids;
      texts = all_like is_text_in_place keeps_texts w v like [] h.texts;
      raw_texts = all_like is_raw_text keeps_raw w v like [] h.raw_texts;
      comments = all_like is_comment_in_form keeps_comments w v like [] h.comments;
      attributes = all_like has_attributes_in_form keeps_attributes w v like [] h.attributes;
      depth = all_like is_not_deep keeps_depth w v like [] h.depth;
      utf8 = all_like is_event_utf8 keeps_utf8 w v like [] h.utf8;
    }
