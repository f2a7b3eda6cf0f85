-- A walk that is settled part by part keeps the rules of settled walks.
use Rattle.std.proofs.Common.{◌≡◌, ℕ, Bool, true, false, ◌||◌, List, [], ◌∷◌, bytes_eq, refl}
use Rattle.std.proofs.lemmas.Bool.{and_from}
use Rattle.hm_base.specs.Walks.{Attribute, Event, doctype, start, text, comment, end, Element, same_flag, is_same_element, path_after_event, ends_match}
use Rattle.hm_elements.specs.Names.{is_among, html, head, body, svg}
use Rattle.hm_elements.specs.Tables.{roots, voids, raw_names, rcdata_names, is_root, is_void, is_raw, is_rcdata, holds_text}
use Rattle.hm_elements.specs.Paths.{html_element, is_in_svg, is_in_text, is_deep}
use Rattle.hm_elements.specs.Settled.{is_html, Top, no_doctype, no_html, all_there, has_top, Frame, no_head, no_body, has_body, starts_root, has_frame, all_events, nests, is_svg_in_place, closes_void, is_text_in_place, is_raw_text, is_comment_in_form, has_attributes_in_form, is_not_deep, is_event_utf8, SettledFrom, Settled}
use Rattle.hm_elements.specs.Places.{RootAllowed, html_path, SettledLast, SettledAfterBody, SettledInside, SettledBody, SettledBeforeBody, SettledHead, SettledBeforeHead, SettledBeforeHtml, SettledPage}
use Rattle.hm_elements.proofs.TableTools.{eq_self}
use Rattle.hm_elements.proofs.Events.{EventStands, is_same, comment_stands, text_stands, start_stands, start_is_no_root}
use Rattle.hm_elements.proofs.Chain.{Inside, at_root, deeper, inside_top, inside_frame, no_root_is_other, html_is_itself, head_is_root, body_is_root}

-- an event before what is settled
put_event : (t t' : Top) (f f' : Frame) (path : List Element) (e : Event) (w : List Event) → EventStands path e w → SettledFrom t' f' (path_after_event path e) w → ends_match path (e ∷ w) ≡ true → has_top t path (e ∷ w) ≡ true → has_frame f path (e ∷ w) ≡ true → SettledFrom t f path (e ∷ w)
put_event t t' f f' path e w st s ends top frame = record {
  ends = ends;
  closed = s.closed;
  top = top;
  frame = frame;
  nesting = and_from (nests path e w) (all_events nests (path_after_event path e) w) st.nesting s.nesting;
  svg = and_from (is_svg_in_place path e w) (all_events is_svg_in_place (path_after_event path e) w) st.svg s.svg;
  voids = and_from (closes_void path e w) (all_events closes_void (path_after_event path e) w) st.voids s.voids;
  texts = and_from (is_text_in_place path e w) (all_events is_text_in_place (path_after_event path e) w) st.texts s.texts;
  raw_texts = and_from (is_raw_text path e w) (all_events is_raw_text (path_after_event path e) w) st.raw_texts s.raw_texts;
  comments = and_from (is_comment_in_form path e w) (all_events is_comment_in_form (path_after_event path e) w) st.comments s.comments;
  attributes = and_from (has_attributes_in_form path e w) (all_events has_attributes_in_form (path_after_event path e) w) st.attributes s.attributes;
  depth = and_from (is_not_deep path e w) (all_events is_not_deep (path_after_event path e) w) st.depth s.depth;
  utf8 = and_from (is_event_utf8 path e w) (all_events is_event_utf8 (path_after_event path e) w) st.utf8 s.utf8;
}

pub end_stands : (path : List Element) (n : List ℕ) (foreign : Bool) (w : List Event) → EventStands path (end n foreign) w
unfolding nests is_svg_in_place closes_void is_text_in_place is_raw_text is_comment_in_form has_attributes_in_form is_not_deep is_event_utf8
end_stands path n foreign w = record { nesting = refl; svg = refl; voids = refl; texts = refl; raw_texts = refl; comments = refl; attributes = refl; depth = refl; utf8 = refl }

pub doctype_stands : (legacy : Bool) (w : List Event) → EventStands [] (doctype legacy) w
unfolding nests is_svg_in_place closes_void is_text_in_place is_raw_text is_comment_in_form has_attributes_in_form is_not_deep is_event_utf8
doctype_stands legacy w = record { nesting = refl; svg = refl; voids = refl; texts = refl; raw_texts = refl; comments = refl; attributes = refl; depth = refl; utf8 = refl }

-- the place of a root
record Fits (path : List Element) (wanted : List ℕ) : Type 0 where
  known : is_root wanted ≡ true
  no_svg : bytes_eq wanted svg || is_in_svg path ≡ false
  outside : is_in_svg path ≡ false
  no_void : is_void wanted ≡ false
  no_text : is_in_text path ≡ false
  not_deep : is_deep (html_element wanted ∷ path) ≡ false

fits_html : Fits [] html
unfolding is_root roots is_void voids is_raw raw_names is_rcdata rcdata_names holds_text is_deep is_among
fits_html = record { known = refl; no_svg = refl; outside = refl; no_void = refl; no_text = refl; not_deep = refl }

fits_head : Fits html_path head
unfolding is_root roots is_void voids is_raw raw_names is_rcdata rcdata_names holds_text is_deep is_among
fits_head = record { known = refl; no_svg = refl; outside = refl; no_void = refl; no_text = refl; not_deep = refl }

fits_body : Fits html_path body
unfolding is_root roots is_void voids is_raw raw_names is_rcdata rcdata_names holds_text is_deep is_among
fits_body = record { known = refl; no_svg = refl; outside = refl; no_void = refl; no_text = refl; not_deep = refl }

root_stands : (path : List Element) (wanted n : List ℕ) (foreign : Bool) (attributes : List Attribute) (w : List Event) → Fits path wanted → RootAllowed wanted n foreign attributes → EventStands path (start n foreign attributes) w
unfolding nests is_svg_in_place closes_void is_text_in_place is_raw_text is_comment_in_form has_attributes_in_form is_not_deep is_event_utf8
root_stands path wanted n foreign attributes w fits a =
    let all = a.attributes_allowed in
    record {
      nesting = rw (a.kind, a.name, fits.known) refl;
      svg = rw (a.kind, a.name, fits.no_svg, fits.outside) refl;
      voids = rw (a.kind, a.name, fits.no_void) refl;
      texts = rw (all.no_zero, fits.no_text) refl;
      raw_texts = refl;
      comments = refl;
      attributes = rw (all.few, all.distinct, all.names) refl;
      depth = rw (a.kind, a.name, fits.not_deep) refl;
      utf8 = all.utf8;
    }

element_is_same : (e : Element) (n : List ℕ) (foreign : Bool) → e ≡ record { name = n; foreign = foreign } → is_same_element e n foreign ≡ true
element_is_same e n foreign h = rw h (and_from (bytes_eq n n) (same_flag foreign foreign) (eq_self n) (is_same foreign foreign refl))

gather_last : (f : Frame) (w : List Event) → SettledLast w → SettledFrom all_there f [] w
gather_last f [] h = record { ends = refl; closed = refl; top = refl; frame = refl; nesting = refl; svg = refl; voids = refl; texts = refl; raw_texts = refl; comments = refl; attributes = refl; depth = refl; utf8 = refl }
gather_last f (comment x ∷ w) h = let s = gather_last no_head w h.1 in put_event all_there all_there f no_head [] (comment x) w (comment_stands [] x w h.0) s s.ends s.top s.frame
gather_last f (doctype legacy ∷ w) h = absurd h
gather_last f (start n foreign attributes ∷ w) h = absurd h
gather_last f (text x raw ∷ w) h = absurd h
gather_last f (end n foreign ∷ w) h = absurd h

gather_after_body : (w : List Event) → SettledAfterBody w → SettledFrom all_there has_body html_path w
gather_after_body [] h = absurd h
gather_after_body (comment x ∷ w) h = let s = gather_after_body w h.1 in put_event all_there all_there has_body has_body html_path (comment x) w (comment_stands html_path x w h.0) s s.ends s.top s.frame
gather_after_body (end n foreign ∷ w) h =
    let s = gather_last has_body w h.2 in
    put_event all_there all_there has_body has_body html_path (end n foreign) w (end_stands html_path n foreign w) s (rw (h.0, h.1) s.ends) s.top s.frame
gather_after_body (doctype legacy ∷ w) h = absurd h
gather_after_body (start n foreign attributes ∷ w) h = absurd h
gather_after_body (text x raw ∷ w) h = absurd h

gather_end : (root : List ℕ) (f : Frame) (after : List Event → Type 0) → ((w : List Event) → after w → SettledFrom all_there f html_path w)
    → (path : List Element) → Inside root path → (n : List ℕ) (foreign : Bool) (w : List Event)
    → ((path' : List Element) → Inside root path' → SettledInside root after path' w → SettledFrom all_there f path' w)
    → SettledInside root after path (end n foreign ∷ w) → SettledFrom all_there f path (end n foreign ∷ w)
gather_end root f after more path at_root n foreign w inner h =
    let s = more w (rw (html_is_itself root n foreign h.0) at h.1) in
    put_event all_there all_there f f (html_element root ∷ html_path) (end n foreign) w (end_stands (html_element root ∷ html_path) n foreign w) s (and_from (is_same_element (html_element root) n foreign) (ends_match html_path w) (element_is_same (html_element root) n foreign h.0) s.ends) s.top s.frame
gather_end root f after more path (deeper m path' ne i) n foreign w inner h =
    let other : is_html root n foreign ≡ false = rw h.0 at ne in
    let s = inner path' i (rw other at h.1) in
    put_event all_there all_there f f (m ∷ path') (end n foreign) w (end_stands (m ∷ path') n foreign w) s (and_from (is_same_element m n foreign) (ends_match path' w) (element_is_same m n foreign h.0) s.ends) s.top (rw (inside_frame root (m ∷ path') (deeper m path' ne i) f (end n foreign) w) s.frame)

gather_inside : (root : List ℕ) → is_root root ≡ true → (f : Frame) (after : List Event → Type 0) → ((w : List Event) → after w → SettledFrom all_there f html_path w)
    → (w : List Event) (path : List Element) → Inside root path → SettledInside root after path w → SettledFrom all_there f path w
gather_inside root known f after more [] path i h = absurd h
gather_inside root known f after more (doctype legacy ∷ w) path i h = absurd h
gather_inside root known f after more (text x raw ∷ w) path i h =
    let s = gather_inside root known f after more w path i h.1 in
    put_event all_there all_there f f path (text x raw) w (text_stands path x raw w h.0) s s.ends (rw (inside_top root path i all_there (text x raw) w) s.top) (rw (inside_frame root path i f (text x raw) w) s.frame)
gather_inside root known f after more (comment x ∷ w) path i h =
    let s = gather_inside root known f after more w path i h.1 in
    put_event all_there all_there f f path (comment x) w (comment_stands path x w h.0) s s.ends (rw (inside_top root path i all_there (comment x) w) s.top) (rw (inside_frame root path i f (comment x) w) s.frame)
gather_inside root known f after more (start n foreign attributes ∷ w) path i h =
    let e : Event = start n foreign attributes in
    let no_root : starts_root e ≡ false = start_is_no_root path n foreign attributes w h.0.element in
    let s = gather_inside root known f after more w (record { name = n; foreign = foreign } ∷ path) (deeper (record { name = n; foreign = foreign }) path (no_root_is_other root n foreign known no_root) i) h.1 in
    put_event all_there all_there f f path e w (start_stands path n foreign attributes w h.0) s s.ends (rw (inside_top root path i all_there e w) s.top) (rw (inside_frame root path i f e w, no_root) s.frame)
gather_inside root known f after more (end n foreign ∷ w) path i h = gather_end root f after more path i n foreign w (λ path' i' h'. gather_inside root known f after more w path' i' h') h

gather_body : (w : List Event) → SettledBody (html_element body ∷ html_path) w → SettledFrom all_there has_body (html_element body ∷ html_path) w
gather_body w h = gather_inside body body_is_root has_body SettledAfterBody gather_after_body w (html_element body ∷ html_path) at_root h

-- the start of a root
itself : (wanted n : List ℕ) (foreign : Bool) (attributes : List Attribute) → RootAllowed wanted n foreign attributes → RootAllowed wanted wanted false attributes
itself wanted n foreign attributes a = record { name = refl; kind = refl; attributes_allowed = a.attributes_allowed }

gather_before_body : (w : List Event) → SettledBeforeBody w → SettledFrom all_there no_body html_path w
gather_before_body [] h = absurd h
gather_before_body (comment x ∷ w) h = let s = gather_before_body w h.1 in put_event all_there all_there no_body no_body html_path (comment x) w (comment_stands html_path x w h.0) s s.ends s.top s.frame
gather_before_body (text x raw ∷ w) h = let s = gather_before_body w h.2 in put_event all_there all_there no_body no_body html_path (text x raw) w (text_stands html_path x raw w h.0) s s.ends s.top (rw h.1 s.frame)
gather_before_body (start n foreign attributes ∷ w) h =
    let a : RootAllowed body n foreign attributes = h.0 in
    let s = gather_body w h.1 in
    rw (a.name, a.kind) (put_event all_there all_there no_body has_body html_path (start body false attributes) w (root_stands html_path body body false attributes w fits_body (itself body n foreign attributes a)) s s.ends s.top s.frame)
gather_before_body (doctype legacy ∷ w) h = absurd h
gather_before_body (end n foreign ∷ w) h = absurd h

gather_head : (w : List Event) → SettledHead (html_element head ∷ html_path) w → SettledFrom all_there no_body (html_element head ∷ html_path) w
gather_head w h = gather_inside head head_is_root no_body SettledBeforeBody gather_before_body w (html_element head ∷ html_path) at_root h

gather_before_head : (w : List Event) → SettledBeforeHead w → SettledFrom all_there no_head html_path w
gather_before_head [] h = absurd h
gather_before_head (comment x ∷ w) h = let s = gather_before_head w h.1 in put_event all_there all_there no_head no_head html_path (comment x) w (comment_stands html_path x w h.0) s s.ends s.top s.frame
gather_before_head (start n foreign attributes ∷ w) h =
    let a : RootAllowed head n foreign attributes = h.0 in
    let s = gather_head w h.1 in
    rw (a.name, a.kind) (put_event all_there all_there no_head no_body html_path (start head false attributes) w (root_stands html_path head head false attributes w fits_head (itself head n foreign attributes a)) s s.ends s.top s.frame)
gather_before_head (text x raw ∷ w) h = absurd h
gather_before_head (doctype legacy ∷ w) h = absurd h
gather_before_head (end n foreign ∷ w) h = absurd h

gather_before_html : (f : Frame) (w : List Event) → SettledBeforeHtml w → SettledFrom no_html f [] w
gather_before_html f [] h = absurd h
gather_before_html f (comment x ∷ w) h = let s = gather_before_html no_head w h.1 in put_event no_html no_html f no_head [] (comment x) w (comment_stands [] x w h.0) s s.ends s.top s.frame
gather_before_html f (start n foreign attributes ∷ w) h =
    let a : RootAllowed html n foreign attributes = h.0 in
    let s = gather_before_head w h.1 in
    rw (a.name, a.kind) (put_event no_html all_there f no_head [] (start html false attributes) w (root_stands [] html html false attributes w fits_html (itself html n foreign attributes a)) s s.ends s.top s.frame)
gather_before_html f (text x raw ∷ w) h = absurd h
gather_before_html f (doctype legacy ∷ w) h = absurd h
gather_before_html f (end n foreign ∷ w) h = absurd h

gather_page : (f : Frame) (w : List Event) → SettledPage w → SettledFrom no_doctype f [] w
gather_page f [] h = absurd h
gather_page f (comment x ∷ w) h = let s = gather_page no_head w h.1 in put_event no_doctype no_doctype f no_head [] (comment x) w (comment_stands [] x w h.0) s s.ends s.top s.frame
gather_page f (doctype legacy ∷ w) h = let s = gather_before_html no_head w h in put_event no_doctype no_html f no_head [] (doctype legacy) w (doctype_stands legacy w) s s.ends s.top s.frame
gather_page f (start n foreign attributes ∷ w) h = absurd h
gather_page f (text x raw ∷ w) h = absurd h
gather_page f (end n foreign ∷ w) h = absurd h

-- what is settled part by part is settled
pub page_settles : (w : List Event) → SettledPage w → Settled w
page_settles w h = gather_page no_head w h
