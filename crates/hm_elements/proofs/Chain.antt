-- The rules of settled walks give the walk part by part.
use Rattle.std.proofs.Common.{◌≡◌, ℕ, Bool, true, false, cond, ◌&&◌, not, List, [], ◌∷◌, bytes_eq, refl, sym, ap, ap₂, subst, Some, None}
use Rattle.std.proofs.lemmas.Bool.{and_parts, not-true, false_from_ne_true, both_ways}
use Rattle.hm_base.specs.Forms.{is_blank}
use Rattle.hm_base.specs.Walks.{Event, doctype, start, text, comment, end, Element, same_flag, is_same_element, path_after_event, ends_match}
use Rattle.hm_elements.specs.Names.{is_among, html, head, body}
use Rattle.hm_elements.specs.Tables.{is_root, roots}
use Rattle.hm_elements.specs.Paths.{html_element}
use Rattle.hm_elements.specs.Settled.{is_html, go_on, Top, no_doctype, no_html, all_there, is_doctype, has_top, Frame, no_head, no_body, has_body, starts_root, has_frame, all_events, nests, is_svg_in_place, closes_void, is_text_in_place, is_raw_text, is_comment_in_form, has_attributes_in_form, is_not_deep, is_event_utf8, SettledFrom, Settled}
use Rattle.hm_elements.specs.Places.{html_path, SettledLast, SettledAfterBody, SettledInside, SettledBody, SettledBeforeBody, SettledHead, SettledBeforeHead, SettledBeforeHtml, SettledPage}
use Rattle.hm_elements.proofs.TableTools.{same_bytes, eq_self}
use Rattle.hm_elements.proofs.Events.{EventStands, same_is, comment_allowed, text_allowed, attributes_allowed, start_allowed}

pub here : (t : Top) (f : Frame) (path : List Element) (e : Event) (w : List Event) → SettledFrom t f path (e ∷ w) → EventStands path e w
here t f path e w s = record {
  nesting = (and_parts (nests path e w) (all_events nests (path_after_event path e) w) s.nesting).0;
  svg = (and_parts (is_svg_in_place path e w) (all_events is_svg_in_place (path_after_event path e) w) s.svg).0;
  voids = (and_parts (closes_void path e w) (all_events closes_void (path_after_event path e) w) s.voids).0;
  texts = (and_parts (is_text_in_place path e w) (all_events is_text_in_place (path_after_event path e) w) s.texts).0;
  raw_texts = (and_parts (is_raw_text path e w) (all_events is_raw_text (path_after_event path e) w) s.raw_texts).0;
  comments = (and_parts (is_comment_in_form path e w) (all_events is_comment_in_form (path_after_event path e) w) s.comments).0;
  attributes = (and_parts (has_attributes_in_form path e w) (all_events has_attributes_in_form (path_after_event path e) w) s.attributes).0;
  depth = (and_parts (is_not_deep path e w) (all_events is_not_deep (path_after_event path e) w) s.depth).0;
  utf8 = (and_parts (is_event_utf8 path e w) (all_events is_event_utf8 (path_after_event path e) w) s.utf8).0;
}

ends_after : (path : List Element) (e : Event) (w : List Event) → ends_match path (e ∷ w) ≡ true → ends_match (path_after_event path e) w ≡ true
ends_after path (doctype legacy) w h = h
ends_after path (start n foreign attributes) w h = h
ends_after path (text s raw) w h = h
ends_after path (comment s) w h = h
ends_after [] (end n foreign) w h = cc
ends_after (m ∷ path) (end n foreign) w h = (and_parts (is_same_element m n foreign) (ends_match path w) h).1

-- the rules after an event, at the place that it leads to
pub after_event : (t : Top) (f : Frame) (path : List Element) (e : Event) (w : List Event) → SettledFrom t f path (e ∷ w) → (t' : Top) (f' : Frame) → has_top t' (path_after_event path e) w ≡ true → has_frame f' (path_after_event path e) w ≡ true → SettledFrom t' f' (path_after_event path e) w
after_event t f path e w s t' f' top frame = record {
  ends = ends_after path e w s.ends;
  closed = s.closed;
  top = top;
  frame = frame;
  nesting = (and_parts (nests path e w) (all_events nests (path_after_event path e) w) s.nesting).1;
  svg = (and_parts (is_svg_in_place path e w) (all_events is_svg_in_place (path_after_event path e) w) s.svg).1;
  voids = (and_parts (closes_void path e w) (all_events closes_void (path_after_event path e) w) s.voids).1;
  texts = (and_parts (is_text_in_place path e w) (all_events is_text_in_place (path_after_event path e) w) s.texts).1;
  raw_texts = (and_parts (is_raw_text path e w) (all_events is_raw_text (path_after_event path e) w) s.raw_texts).1;
  comments = (and_parts (is_comment_in_form path e w) (all_events is_comment_in_form (path_after_event path e) w) s.comments).1;
  attributes = (and_parts (has_attributes_in_form path e w) (all_events has_attributes_in_form (path_after_event path e) w) s.attributes).1;
  depth = (and_parts (is_not_deep path e w) (all_events is_not_deep (path_after_event path e) w) s.depth).1;
  utf8 = (and_parts (is_event_utf8 path e w) (all_events is_event_utf8 (path_after_event path e) w) s.utf8).1;
}

pub same_element : (e : Element) (n : List ℕ) (foreign : Bool) → is_same_element e n foreign ≡ true → e ≡ record { name = n; foreign = foreign }
same_element e n foreign h =
    let two = and_parts (bytes_eq e.name n) (same_flag e.foreign foreign) h in
    let P : List ℕ → Bool → Element = λ m b. record { name = m; foreign = b } in
    ap₂ P (same_bytes e.name n two.0) (same_is e.foreign foreign two.1)

pub html_is : (root n : List ℕ) (foreign : Bool) → is_html root n foreign ≡ true → (n ≡ root) × (foreign ≡ false)
html_is root n true h = cc
html_is root n false h = (same_bytes n root h, refl)

-- after html
chain_last : (f : Frame) (w : List Event) → SettledFrom all_there f [] w → SettledLast w
chain_last f [] s = tt
chain_last f (comment x ∷ w) s = (comment_allowed [] x w (here all_there f [] (comment x) w s), chain_last no_head w (after_event all_there f [] (comment x) w s all_there no_head s.top s.frame))
chain_last f (doctype legacy ∷ w) s = let h = s.top in cc
chain_last f (start n foreign attributes ∷ w) s = let h = s.top in cc
chain_last f (text x raw ∷ w) s = let h = s.top in cc
chain_last f (end n foreign ∷ w) s = let h = s.ends in cc

chain_after_body : (w : List Event) → SettledFrom all_there has_body html_path w → SettledAfterBody w
chain_after_body [] s = let h = s.closed in cc
chain_after_body (comment x ∷ w) s = (comment_allowed html_path x w (here all_there has_body html_path (comment x) w s), chain_after_body w (after_event all_there has_body html_path (comment x) w s all_there has_body s.top s.frame))
chain_after_body (end n foreign ∷ w) s =
    let two = and_parts (is_same_element (html_element html) n foreign) (ends_match [] w) s.ends in
    let e = same_element (html_element html) n foreign two.0 in
    (sym (ap (λ (m : Element). m.name) e), sym (ap (λ (m : Element). m.foreign) e), chain_last has_body w (after_event all_there has_body html_path (end n foreign) w s all_there has_body s.top s.frame))
chain_after_body (doctype legacy ∷ w) s = let h = s.top in cc
chain_after_body (start n foreign attributes ∷ w) s = let h = s.frame in cc
chain_after_body (text x raw ∷ w) s = let h = s.frame in cc

-- the path inside a root: its own path, and elements with other names
pub data Inside (root : List ℕ) : List Element → Type 0 where
  at_root : Inside root (html_element root ∷ html_path)
  deeper : (e : Element) (path : List Element) → is_html root e.name e.foreign ≡ false → Inside root path → Inside root (e ∷ path)

pub inside_is_open : (root : List ℕ) (path : List Element) → Inside root path → path ≡ [] → ⊥
inside_is_open root path at_root h = cc
inside_is_open root path (deeper e path' ne i) h = cc

pub inside_top : (root : List ℕ) (path : List Element) → Inside root path → (t : Top) (e : Event) (w : List Event) → has_top t path (e ∷ w) ≡ not (is_doctype e) && has_top t (path_after_event path e) w
inside_top root path at_root t e w = refl
inside_top root path (deeper m path' ne i) t e w = refl

pub inside_frame : (root : List ℕ) (path : List Element) → Inside root path → (f : Frame) (e : Event) (w : List Event) → has_frame f path (e ∷ w) ≡ not (starts_root e) && has_frame f (path_after_event path e) w
inside_frame root path at_root f e w = refl
inside_frame root path (deeper m path' ne at_root) f e w = refl
inside_frame root path (deeper m path' ne (deeper k path'' ne' i)) f e w = refl

-- the element isn't the root, where it is none of html, head and body
pub no_root_is_other : (root n : List ℕ) (foreign : Bool) → is_root root ≡ true → not foreign && is_root n ≡ false → is_html root n foreign ≡ false
no_root_is_other root n true known h = refl
no_root_is_other root n false known h = false_from_ne_true (bytes_eq n root) (λ e. both_ways (is_root n) h (subst (λ m. is_root m ≡ true) (sym (same_bytes n root e)) known))

pub html_is_itself : (root n : List ℕ) (foreign : Bool) → html_element root ≡ record { name = n; foreign = foreign } → is_html root n foreign ≡ true
html_is_itself root n foreign e =
    let flag : false ≡ foreign = ap (λ (m : Element). m.foreign) e in
    let name : root ≡ n = ap (λ (m : Element). m.name) e in
    rw (sym flag, sym name) (eq_self root)

-- the end of an element inside a root, with the law of what follows it
end_inside : (root : List ℕ) (f : Frame) (after : List Event → Type 0) → ((w : List Event) → SettledFrom all_there f html_path w → after w)
    → (path : List Element) → Inside root path → (n : List ℕ) (foreign : Bool) (w : List Event)
    → ((path' : List Element) → Inside root path' → SettledFrom all_there f path' w → SettledInside root after path' w)
    → SettledFrom all_there f path (end n foreign ∷ w) → SettledInside root after path (end n foreign ∷ w)
end_inside root f after more path at_root n foreign w inner s =
    let two = and_parts (is_same_element (html_element root) n foreign) (ends_match html_path w) s.ends in
    let e = same_element (html_element root) n foreign two.0 in
    let rest : SettledFrom all_there f html_path w = after_event all_there f (html_element root ∷ html_path) (end n foreign) w s all_there f s.top s.frame in
    (e, rw (html_is_itself root n foreign e) (more w rest))
end_inside root f after more path (deeper m path' ne i) n foreign w inner s =
    let two = and_parts (is_same_element m n foreign) (ends_match path' w) s.ends in
    let e = same_element m n foreign two.0 in
    let other : is_html root n foreign ≡ false = rw e at ne in
    let rest : SettledFrom all_there f path' w = after_event all_there f (m ∷ path') (end n foreign) w s all_there f s.top (rw (inside_frame root (m ∷ path') (deeper m path' ne i) f (end n foreign) w) at s.frame) in
    (e, rw other (inner path' i rest))

chain_inside : (root : List ℕ) → is_root root ≡ true → (f : Frame) (after : List Event → Type 0) → ((w : List Event) → SettledFrom all_there f html_path w → after w)
    → (w : List Event) (path : List Element) → Inside root path → SettledFrom all_there f path w → SettledInside root after path w
chain_inside root known f after more [] path i s = absurd (inside_is_open root path i s.closed)
chain_inside root known f after more (doctype legacy ∷ w) path i s = let h : false && has_top all_there path w ≡ true = rw (inside_top root path i all_there (doctype legacy) w) at s.top in cc
chain_inside root known f after more (text x raw ∷ w) path i s =
    let top = rw (inside_top root path i all_there (text x raw) w) at s.top in
    let frame = rw (inside_frame root path i f (text x raw) w) at s.frame in
    (text_allowed path x raw w (here all_there f path (text x raw) w s), chain_inside root known f after more w path i (after_event all_there f path (text x raw) w s all_there f top frame))
chain_inside root known f after more (comment x ∷ w) path i s =
    let top = rw (inside_top root path i all_there (comment x) w) at s.top in
    let frame = rw (inside_frame root path i f (comment x) w) at s.frame in
    (comment_allowed path x w (here all_there f path (comment x) w s), chain_inside root known f after more w path i (after_event all_there f path (comment x) w s all_there f top frame))
chain_inside root known f after more (start n foreign attributes ∷ w) path i s =
    let e : Event = start n foreign attributes in
    let top = rw (inside_top root path i all_there e w) at s.top in
    let two = and_parts (not (starts_root e)) (has_frame f (path_after_event path e) w) (rw (inside_frame root path i f e w) at s.frame) in
    let no_root : starts_root e ≡ false = not-true (starts_root e) two.0 in
    (start_allowed path n foreign attributes w no_root (here all_there f path e w s), chain_inside root known f after more w (record { name = n; foreign = foreign } ∷ path) (deeper (record { name = n; foreign = foreign }) path (no_root_is_other root n foreign known no_root) i) (after_event all_there f path e w s all_there f top two.1))
chain_inside root known f after more (end n foreign ∷ w) path i s = end_inside root f after more path i n foreign w (λ path' i' s'. chain_inside root known f after more w path' i' s') s

pub head_is_root : is_root head ≡ true
unfolding is_root roots is_among
head_is_root = refl

pub body_is_root : is_root body ≡ true
unfolding is_root roots is_among
body_is_root = refl

-- the place after a test
passed : {A : Type 0} (b : Bool) (a : A) (more : A → Bool) → go_on (cond b (Some a) None) more ≡ true → (b ≡ true) × (more a ≡ true)
passed true a more h = (refl, h)
passed false a more h = cc

chain_body : (w : List Event) → SettledFrom all_there has_body (html_element body ∷ html_path) w → SettledBody (html_element body ∷ html_path) w
chain_body w s = chain_inside body body_is_root has_body SettledAfterBody chain_after_body w (html_element body ∷ html_path) at_root s

chain_before_body : (w : List Event) → SettledFrom all_there no_body html_path w → SettledBeforeBody w
chain_before_body [] s = let h = s.closed in cc
chain_before_body (comment x ∷ w) s = (comment_allowed html_path x w (here all_there no_body html_path (comment x) w s), chain_before_body w (after_event all_there no_body html_path (comment x) w s all_there no_body s.top s.frame))
chain_before_body (text x raw ∷ w) s =
    let (blank, frame) = passed (is_blank x) no_body (λ next. has_frame next html_path w) s.frame in
    (text_allowed html_path x raw w (here all_there no_body html_path (text x raw) w s), blank, chain_before_body w (after_event all_there no_body html_path (text x raw) w s all_there no_body s.top frame))
chain_before_body (start n foreign attributes ∷ w) s =
    let e : Event = start n foreign attributes in
    let (is, frame) = passed (is_html body n foreign) has_body (λ next. has_frame next (path_after_event html_path e) w) s.frame in
    let (name, kind) = html_is body n foreign is in
    let rest = after_event all_there no_body html_path e w s all_there has_body s.top frame in
    (record { name = name; kind = kind; attributes_allowed = attributes_allowed html_path n foreign attributes w (here all_there no_body html_path e w s) }, chain_body w (rw (name, kind) at rest))
chain_before_body (doctype legacy ∷ w) s = let h = s.top in cc
chain_before_body (end n foreign ∷ w) s = let h = s.frame in cc

chain_head : (w : List Event) → SettledFrom all_there no_body (html_element head ∷ html_path) w → SettledHead (html_element head ∷ html_path) w
chain_head w s = chain_inside head head_is_root no_body SettledBeforeBody chain_before_body w (html_element head ∷ html_path) at_root s

chain_before_head : (w : List Event) → SettledFrom all_there no_head html_path w → SettledBeforeHead w
chain_before_head [] s = let h = s.closed in cc
chain_before_head (comment x ∷ w) s = (comment_allowed html_path x w (here all_there no_head html_path (comment x) w s), chain_before_head w (after_event all_there no_head html_path (comment x) w s all_there no_head s.top s.frame))
chain_before_head (start n foreign attributes ∷ w) s =
    let e : Event = start n foreign attributes in
    let (is, frame) = passed (is_html head n foreign) no_body (λ next. has_frame next (path_after_event html_path e) w) s.frame in
    let (name, kind) = html_is head n foreign is in
    let rest = after_event all_there no_head html_path e w s all_there no_body s.top frame in
    (record { name = name; kind = kind; attributes_allowed = attributes_allowed html_path n foreign attributes w (here all_there no_head html_path e w s) }, chain_head w (rw (name, kind) at rest))
chain_before_head (text x raw ∷ w) s = let h = s.frame in cc
chain_before_head (doctype legacy ∷ w) s = let h = s.top in cc
chain_before_head (end n foreign ∷ w) s = let h = s.frame in cc

chain_before_html : (f : Frame) (w : List Event) → SettledFrom no_html f [] w → SettledBeforeHtml w
chain_before_html f [] s = let h = s.top in cc
chain_before_html f (comment x ∷ w) s = (comment_allowed [] x w (here no_html f [] (comment x) w s), chain_before_html no_head w (after_event no_html f [] (comment x) w s no_html no_head s.top s.frame))
chain_before_html f (start n foreign attributes ∷ w) s =
    let e : Event = start n foreign attributes in
    let (is, top) = passed (is_html html n foreign) all_there (λ next. has_top next (path_after_event [] e) w) s.top in
    let (name, kind) = html_is html n foreign is in
    let frame = (and_parts _ (has_frame no_head (path_after_event [] e) w) s.frame).1 in
    let rest = after_event no_html f [] e w s all_there no_head top frame in
    (record { name = name; kind = kind; attributes_allowed = attributes_allowed [] n foreign attributes w (here no_html f [] e w s) }, chain_before_head w (rw (name, kind) at rest))
chain_before_html f (text x raw ∷ w) s = let h = s.top in cc
chain_before_html f (doctype legacy ∷ w) s = let h = s.top in cc
chain_before_html f (end n foreign ∷ w) s = let h = s.ends in cc

chain_page : (f : Frame) (w : List Event) → SettledFrom no_doctype f [] w → SettledPage w
chain_page f [] s = let h = s.top in cc
chain_page f (comment x ∷ w) s = (comment_allowed [] x w (here no_doctype f [] (comment x) w s), chain_page no_head w (after_event no_doctype f [] (comment x) w s no_doctype no_head s.top s.frame))
chain_page f (doctype legacy ∷ w) s = chain_before_html no_head w (after_event no_doctype f [] (doctype legacy) w s no_html no_head s.top s.frame)
chain_page f (start n foreign attributes ∷ w) s = let h = s.top in cc
chain_page f (text x raw ∷ w) s = let h = s.top in cc
chain_page f (end n foreign ∷ w) s = let h = s.ends in cc

-- a settled walk, part by part
pub settled_page : (w : List Event) → Settled w → SettledPage w
settled_page w s = chain_page no_head w s
