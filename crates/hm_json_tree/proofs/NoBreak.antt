-- A walk has no break exactly where it is settled.
use Rattle.std.proofs.Common.{◌≡◌, ℕ, ◌+◌, Bool, true, false, cond, ◌||◌, ◌&&◌, not, List, [], ◌∷◌, refl, sym, ◌∙◌, ap, Option, Some, None}
use Rattle.std.specs.Prelude.{is_some, unwrap_or}
use Rattle.std.proofs.lemmas.Bool.{and_parts, and_from, not-true}
use Rattle.hm_base.specs.Bytes.{is_null}
use Rattle.hm_base.specs.Forms.{has_byte, is_blank}
use Rattle.hm_elements.specs.Paths.{is_in_raw, is_in_blank}
use Rattle.hm_base.specs.Walks.{same_flag, Event, doctype, start, text, comment, end, Element, path_after_event, path_after, ends_match, is_same_element, begins_end, begins_text}
use Rattle.hm_elements.specs.Tables.{is_void}
use Rattle.hm_elements.specs.Settled.{go_on, Top, next_top, is_doctype, is_all_there, has_top, Frame, no_head, next_frame, starts_root, starts_inner_root, has_frame, all_events, nests, is_svg_in_place, closes_void, is_text_in_place, is_raw_text, is_comment_in_form, has_attributes_in_form, is_not_deep, is_event_utf8, SettledFrom}
use Rattle.hm_elements.proofs.Chain.{here, after_event}
use Rattle.hm_elements.proofs.Events.{EventStands}
use Rattle.hm_json_tree.specs.Breaks.{Break, Past, first_past, past_after, top_after, frame_after, is_end, is_text, is_after_void, is_after_text, unless, point_at, at_event, first_break_from, first_break}
use Rattle.hm_json_tree.specs.Laws.{NoBreakIsSettled, SettledHasNoBreak}

-- ---- What an event without a break passes

pub record Passes (p : Past) (e : Event) : Type 0 where
  pub top : is_some (top_after p.top p.path e) ≡ true
  pub frame : is_some (frame_after p.frame p.path e) ≡ true
  pub nesting : nests p.path e [] ≡ true
  pub svg : is_svg_in_place p.path e [] ≡ true
  pub due : not (is_after_void p.before) || is_end e ≡ true
  pub texts : is_text_in_place p.path e [] && not (is_after_text p.before && is_text e) ≡ true
  pub raw_texts : is_raw_text p.path e [] ≡ true
  pub comments : is_comment_in_form p.path e [] ≡ true
  pub attributes : has_attributes_in_form p.path e [] ≡ true
  pub depth : is_not_deep p.path e [] ≡ true

unless_none : (b : Bool) (n : ℕ) (more : Option ℕ) → unless b n more ≡ None → (b ≡ true) × (more ≡ None)
unless_none true n more h = (refl, h)
unless_none false n more h = cc

pub passes : (p : Past) (e : Event) → point_at p e ≡ None → Passes p e
passes p e h =
    let a = unless_none _ 1 _ h in
    let b = unless_none _ 2 _ a.1 in
    let c = unless_none _ 3 _ b.1 in
    let d = unless_none _ 4 _ c.1 in
    let f = unless_none _ 5 _ d.1 in
    let g = unless_none _ 6 _ f.1 in
    let j = unless_none _ 7 _ g.1 in
    let k = unless_none _ 8 _ j.1 in
    let l = unless_none _ 9 _ k.1 in
    let m = unless_none _ 10 _ l.1 in
    record { top = a.0; frame = b.0; nesting = c.0; svg = d.0; due = f.0; texts = g.0; raw_texts = j.0; comments = k.0; attributes = l.0; depth = m.0 }

no_point : (p : Past) (e : Event) → Passes p e → point_at p e ≡ None
no_point p e s = rw (s.top, s.frame, s.nesting, s.svg, s.due, s.texts, s.raw_texts, s.comments, s.attributes, s.depth) refl

at_none : (i : ℕ) (o : Option ℕ) (more : Option Break) → at_event i o more ≡ None → (o ≡ None) × (more ≡ None)
at_none i None more h = (refl, h)
at_none i (Some n) more h = cc

-- ---- What has stood at the top and under html

top_more : (t : Top) (path : List Element) (e : Event) (w : List Event) → is_some (top_after t path e) ≡ true → has_top (unwrap_or (top_after t path e) t) (path_after_event path e) w ≡ true → has_top t path (e ∷ w) ≡ true
top_more t [] e w some h = by (next_top t e) some h
  where
    by : (o : Option Top) → is_some o ≡ true → has_top (unwrap_or o t) (path_after_event [] e) w ≡ true → go_on o (λ next. has_top next (path_after_event [] e) w) ≡ true
    by None s h = cc
    by (Some next) s h = h
top_more t (m ∷ path) e w some h = by (is_doctype e) some h
  where
    by : (b : Bool) → is_some (cond b None (Some t)) ≡ true → has_top (unwrap_or (cond b None (Some t)) t) (path_after_event (m ∷ path) e) w ≡ true → not b && has_top t (path_after_event (m ∷ path) e) w ≡ true
    by true s h = cc
    by false s h = h

top_less : (t : Top) (path : List Element) (e : Event) (w : List Event) → has_top t path (e ∷ w) ≡ true → (is_some (top_after t path e) ≡ true) × (has_top (unwrap_or (top_after t path e) t) (path_after_event path e) w ≡ true)
top_less t [] e w h = by (next_top t e) h
  where
    by : (o : Option Top) → go_on o (λ next. has_top next (path_after_event [] e) w) ≡ true → (is_some o ≡ true) × (has_top (unwrap_or o t) (path_after_event [] e) w ≡ true)
    by None h = cc
    by (Some next) h = (refl, h)
top_less t (m ∷ path) e w h = by (is_doctype e) h
  where
    by : (b : Bool) → not b && has_top t (path_after_event (m ∷ path) e) w ≡ true → (is_some (cond b None (Some t)) ≡ true) × (has_top (unwrap_or (cond b None (Some t)) t) (path_after_event (m ∷ path) e) w ≡ true)
    by true h = cc
    by false h = (refl, h)

frame_more : (f : Frame) (path : List Element) (e : Event) (w : List Event) → is_some (frame_after f path e) ≡ true → has_frame (unwrap_or (frame_after f path e) f) (path_after_event path e) w ≡ true → has_frame f path (e ∷ w) ≡ true
frame_more f [] e w some h = by (starts_inner_root e) some h
  where
    by : (b : Bool) → is_some (cond b None (Some no_head)) ≡ true → has_frame (unwrap_or (cond b None (Some no_head)) f) (path_after_event [] e) w ≡ true → not b && has_frame no_head (path_after_event [] e) w ≡ true
    by true s h = cc
    by false s h = h
frame_more f (m ∷ []) e w some h = by (next_frame f e) some h
  where
    by : (o : Option Frame) → is_some o ≡ true → has_frame (unwrap_or o f) (path_after_event (m ∷ []) e) w ≡ true → go_on o (λ next. has_frame next (path_after_event (m ∷ []) e) w) ≡ true
    by None s h = cc
    by (Some next) s h = h
frame_more f (m ∷ k ∷ path) e w some h = by (starts_root e) some h
  where
    by : (b : Bool) → is_some (cond b None (Some f)) ≡ true → has_frame (unwrap_or (cond b None (Some f)) f) (path_after_event (m ∷ k ∷ path) e) w ≡ true → not b && has_frame f (path_after_event (m ∷ k ∷ path) e) w ≡ true
    by true s h = cc
    by false s h = h

frame_less : (f : Frame) (path : List Element) (e : Event) (w : List Event) → has_frame f path (e ∷ w) ≡ true → (is_some (frame_after f path e) ≡ true) × (has_frame (unwrap_or (frame_after f path e) f) (path_after_event path e) w ≡ true)
frame_less f [] e w h = by (starts_inner_root e) h
  where
    by : (b : Bool) → not b && has_frame no_head (path_after_event [] e) w ≡ true → (is_some (cond b None (Some no_head)) ≡ true) × (has_frame (unwrap_or (cond b None (Some no_head)) f) (path_after_event [] e) w ≡ true)
    by true h = cc
    by false h = (refl, h)
frame_less f (m ∷ []) e w h = by (next_frame f e) h
  where
    by : (o : Option Frame) → go_on o (λ next. has_frame next (path_after_event (m ∷ []) e) w) ≡ true → (is_some o ≡ true) × (has_frame (unwrap_or o f) (path_after_event (m ∷ []) e) w ≡ true)
    by None h = cc
    by (Some next) h = (refl, h)
frame_less f (m ∷ k ∷ path) e w h = by (starts_root e) h
  where
    by : (b : Bool) → not b && has_frame f (path_after_event (m ∷ k ∷ path) e) w ≡ true → (is_some (cond b None (Some f)) ≡ true) × (has_frame (unwrap_or (cond b None (Some f)) f) (path_after_event (m ∷ k ∷ path) e) w ≡ true)
    by true h = cc
    by false h = (refl, h)

-- ---- Rules that don't ask for what follows

nests_alone : (path : List Element) (e : Event) (w : List Event) → nests path e w ≡ nests path e []
unfolding nests
nests_alone path (doctype legacy) w = refl
nests_alone path (start n foreign attributes) w = refl
nests_alone path (text s raw) w = refl
nests_alone path (comment s) w = refl
nests_alone path (end n foreign) w = refl

svg_alone : (path : List Element) (e : Event) (w : List Event) → is_svg_in_place path e w ≡ is_svg_in_place path e []
unfolding is_svg_in_place
svg_alone path (doctype legacy) w = refl
svg_alone path (start n foreign attributes) w = refl
svg_alone path (text s raw) w = refl
svg_alone path (comment s) w = refl
svg_alone path (end n foreign) w = refl

raw_alone : (path : List Element) (e : Event) (w : List Event) → is_raw_text path e w ≡ is_raw_text path e []
unfolding is_raw_text
raw_alone path (doctype legacy) w = refl
raw_alone path (start n foreign attributes) w = refl
raw_alone path (text s raw) w = refl
raw_alone path (comment s) w = refl
raw_alone path (end n foreign) w = refl

comment_alone : (path : List Element) (e : Event) (w : List Event) → is_comment_in_form path e w ≡ is_comment_in_form path e []
unfolding is_comment_in_form
comment_alone path (doctype legacy) w = refl
comment_alone path (start n foreign attributes) w = refl
comment_alone path (text s raw) w = refl
comment_alone path (comment s) w = refl
comment_alone path (end n foreign) w = refl

attributes_alone : (path : List Element) (e : Event) (w : List Event) → has_attributes_in_form path e w ≡ has_attributes_in_form path e []
unfolding has_attributes_in_form
attributes_alone path (doctype legacy) w = refl
attributes_alone path (start n foreign attributes) w = refl
attributes_alone path (text s raw) w = refl
attributes_alone path (comment s) w = refl
attributes_alone path (end n foreign) w = refl

depth_alone : (path : List Element) (e : Event) (w : List Event) → is_not_deep path e w ≡ is_not_deep path e []
unfolding is_not_deep
depth_alone path (doctype legacy) w = refl
depth_alone path (start n foreign attributes) w = refl
depth_alone path (text s raw) w = refl
depth_alone path (comment s) w = refl
depth_alone path (end n foreign) w = refl

-- ---- Rules that ask for the next event, as rules that ask for the event before

-- what the event before asks of what is next
record Due (before : Option Event) (w : List Event) : Type 0 where
  ends : is_after_void before ≡ true → begins_end w ≡ true
  apart : is_after_text before ≡ true → begins_text w ≡ false

text_alone : (path : List Element) (e : Event) (w : List Event) → (is_after_text (Some e) ≡ true → begins_text w ≡ false) → is_text_in_place path e w ≡ is_text_in_place path e []
unfolding is_text_in_place
text_alone path (doctype legacy) w h = refl
text_alone path (start n foreign attributes) w h = refl
text_alone path (text s raw) w h = rw (h refl) refl
text_alone path (comment s) w h = refl
text_alone path (end n foreign) w h = refl

void_closed : (path : List Element) (e : Event) (w : List Event) → (is_after_void (Some e) ≡ true → begins_end w ≡ true) → closes_void path e w ≡ true
unfolding closes_void
void_closed path (doctype legacy) w h = refl
void_closed path (start n foreign attributes) w h = by (foreign || not (is_void n)) h
  where
    by : (b : Bool) → (not b ≡ true → begins_end w ≡ true) → b || begins_end w ≡ true
    by true k = refl
    by false k = k refl
void_closed path (text s raw) w h = refl
void_closed path (comment s) w h = refl
void_closed path (end n foreign) w h = refl

void_due : (path : List Element) (e : Event) (w : List Event) → closes_void path e w ≡ true → is_after_void (Some e) ≡ true → begins_end w ≡ true
unfolding closes_void
void_due path (doctype legacy) w h k = cc
void_due path (start n foreign attributes) w h k = by (foreign || not (is_void n)) h k
  where
    by : (b : Bool) → b || begins_end w ≡ true → not b ≡ true → begins_end w ≡ true
    by true h k = cc
    by false h k = h
void_due path (text s raw) w h k = cc
void_due path (comment s) w h k = cc
void_due path (end n foreign) w h k = cc

text_due : (path : List Element) (e : Event) (w : List Event) → is_text_in_place path e w ≡ true → is_after_text (Some e) ≡ true → begins_text w ≡ false
unfolding is_text_in_place
text_due path (doctype legacy) w h k = cc
text_due path (start n foreign attributes) w h k = cc
text_due path (text s raw) w h k =
    let five = and_parts (not (is_null s) && not (begins_text w) && not (has_byte 0 s) && same_flag raw (is_in_raw path)) (not (is_in_blank path) || is_blank s) h in
    let four = and_parts (not (is_null s) && not (begins_text w) && not (has_byte 0 s)) (same_flag raw (is_in_raw path)) five.0 in
    let three = and_parts (not (is_null s) && not (begins_text w)) (not (has_byte 0 s)) four.0 in
    not-true (begins_text w) (and_parts (not (is_null s)) (not (begins_text w)) three.0).1
text_due path (comment s) w h k = cc
text_due path (end n foreign) w h k = cc

end_begins : (e : Event) (w : List Event) → is_end e ≡ true → begins_end (e ∷ w) ≡ true
end_begins (doctype legacy) w h = cc
end_begins (start n foreign attributes) w h = cc
end_begins (text s raw) w h = cc
end_begins (comment s) w h = cc
end_begins (end n foreign) w h = refl

begins_is_end : (e : Event) (w : List Event) → begins_end (e ∷ w) ≡ true → is_end e ≡ true
begins_is_end (doctype legacy) w h = cc
begins_is_end (start n foreign attributes) w h = cc
begins_is_end (text s raw) w h = cc
begins_is_end (comment s) w h = cc
begins_is_end (end n foreign) w h = refl

text_begins : (e : Event) (w : List Event) → begins_text (e ∷ w) ≡ is_text e
text_begins (doctype legacy) w = refl
text_begins (start n foreign attributes) w = refl
text_begins (text s raw) w = refl
text_begins (comment s) w = refl
text_begins (end n foreign) w = refl

implied : (a b : Bool) → not a || b ≡ true → a ≡ true → b ≡ true
implied true b h e = h
implied false b h e = cc

-- after the start of an element something is left
still_open : (path : List Element) (e : Event) → is_after_void (Some e) ≡ true → path_after (path_after_event path e) [] ≡ [] → ⊥
still_open path (doctype legacy) h k = cc
still_open path (start n foreign attributes) h k = cc
still_open path (text s raw) h k = cc
still_open path (comment s) h k = cc
still_open path (end n foreign) h k = cc

-- what follows without a break keeps what is due
due_after : (i : ℕ) (p : Past) (e : Event) (w : List Event) → path_after (path_after_event p.path e) w ≡ [] → first_break_from i (past_after p e) w ≡ None → Due (Some e) w
due_after i p e [] closed h = record { ends = λ k. absurd (still_open p.path e k closed); apart = λ k. refl }
due_after i p e (d ∷ w) closed h =
    let s : Passes (past_after p e) d = passes (past_after p e) d (at_none i (point_at (past_after p e) d) _ h).0 in
    record {
      ends = λ k. end_begins d w (implied (is_after_void (Some e)) (is_end d) s.due k);
      apart = λ k. text_begins d w ∙ no_second (is_after_text (Some e)) (is_text d) (and_parts (is_text_in_place (path_after_event p.path e) d []) (not (is_after_text (Some e) && is_text d)) s.texts).1 k;
    }
  where
    no_second : (a b : Bool) → not (a && b) ≡ true → a ≡ true → b ≡ false
    no_second true b h k = not-true b h
    no_second false b h k = cc

ends_less : (path : List Element) (e : Event) (w : List Event) → ends_match path (e ∷ w) ≡ true → ends_match (path_after_event path e) w ≡ true
ends_less path (doctype legacy) w h = h
ends_less path (start n foreign attributes) w h = h
ends_less path (text s raw) w h = h
ends_less path (comment s) w h = h
ends_less [] (end n foreign) w h = cc
ends_less (m ∷ path) (end n foreign) w h = (and_parts (is_same_element m n foreign) (ends_match path w) h).1

-- ---- The law

settled_from : (w : List Event) (i : ℕ) (p : Past) → ends_match p.path w ≡ true → path_after p.path w ≡ [] → all_events is_event_utf8 p.path w ≡ true → first_break_from i p w ≡ None → SettledFrom p.top p.frame p.path w
settled_from [] i p ends closed utf8 h = record {
  ends = refl;
  closed = closed;
  top = by (is_all_there p.top) h;
  frame = refl;
  nesting = refl;
  svg = refl;
  voids = refl;
  texts = refl;
  raw_texts = refl;
  comments = refl;
  attributes = refl;
  depth = refl;
  utf8 = refl;
}
  where
    missing : Break
    missing = record { event = i; point = 1 }

    by : (b : Bool) → cond b None (Some missing) ≡ None → b ≡ true
    by true h = refl
    by false h = cc
settled_from (e ∷ w) i p ends closed utf8 h =
    let two = at_none i (point_at p e) (first_break_from (i + 1) (past_after p e) w) h in
    let k : Passes p e = passes p e two.0 in
    let u = and_parts (is_event_utf8 p.path e w) (all_events is_event_utf8 (path_after_event p.path e) w) utf8 in
    let s = settled_from w (i + 1) (past_after p e) (ends_less p.path e w ends) closed u.1 two.1 in
    let due : Due (Some e) w = due_after (i + 1) p e w closed two.1 in
    let texts = and_parts (is_text_in_place p.path e []) (not (is_after_text p.before && is_text e)) k.texts in
    record {
      ends = ends;
      closed = closed;
      top = top_more p.top p.path e w k.top s.top;
      frame = frame_more p.frame p.path e w k.frame s.frame;
      nesting = and_from _ _ (nests_alone p.path e w ∙ k.nesting) s.nesting;
      svg = and_from _ _ (svg_alone p.path e w ∙ k.svg) s.svg;
      voids = and_from _ _ (void_closed p.path e w due.ends) s.voids;
      texts = and_from _ _ (text_alone p.path e w due.apart ∙ texts.0) s.texts;
      raw_texts = and_from _ _ (raw_alone p.path e w ∙ k.raw_texts) s.raw_texts;
      comments = and_from _ _ (comment_alone p.path e w ∙ k.comments) s.comments;
      attributes = and_from _ _ (attributes_alone p.path e w ∙ k.attributes) s.attributes;
      depth = and_from _ _ (depth_alone p.path e w ∙ k.depth) s.depth;
      utf8 = utf8;
    }

no_break_in : (w : List Event) (i : ℕ) (p : Past) → SettledFrom p.top p.frame p.path w → Due p.before w → first_break_from i p w ≡ None
no_break_in [] i p s due = rw (s.top) refl
no_break_in (e ∷ w) i p s due =
    let st : EventStands p.path e w = here p.top p.frame p.path e w s in
    let top = top_less p.top p.path e w s.top in
    let frame = frame_less p.frame p.path e w s.frame in
    let more : Due (Some e) w = record { ends = void_due p.path e w st.voids; apart = text_due p.path e w st.texts } in
    let k : Passes p e = record {
      top = top.0;
      frame = frame.0;
      nesting = sym (nests_alone p.path e w) ∙ st.nesting;
      svg = sym (svg_alone p.path e w) ∙ st.svg;
      due = ends_due (is_after_void p.before) (λ h. begins_is_end e w (due.ends h));
      texts = and_from _ _ (sym (text_alone p.path e w more.apart) ∙ st.texts) (no_second (is_after_text p.before) (λ h. sym (text_begins e w) ∙ due.apart h));
      raw_texts = sym (raw_alone p.path e w) ∙ st.raw_texts;
      comments = sym (comment_alone p.path e w) ∙ st.comments;
      attributes = sym (attributes_alone p.path e w) ∙ st.attributes;
      depth = sym (depth_alone p.path e w) ∙ st.depth;
    } in
    let s' = after_event p.top p.frame p.path e w s (past_after p e).top (past_after p e).frame top.1 frame.1 in
    ap (λ o. at_event i o (first_break_from (i + 1) (past_after p e) w)) (no_point p e k) ∙ no_break_in w (i + 1) (past_after p e) s' more
  where
    ends_due : (b : Bool) → (b ≡ true → is_end e ≡ true) → not b || is_end e ≡ true
    ends_due true h = h refl
    ends_due false h = refl

    no_second : (b : Bool) → (b ≡ true → is_text e ≡ false) → not (b && is_text e) ≡ true
    no_second true h = rw (h refl) refl
    no_second false h = refl

pub no_break_is_settled : NoBreakIsSettled
unfolding first_break
no_break_is_settled w ends closed utf8 h = settled_from w 0 first_past ends closed utf8 h

pub settled_has_no_break : SettledHasNoBreak
unfolding first_break
settled_has_no_break w s = no_break_in w 0 first_past s (record { ends = λ h. cc; apart = λ h. cc })
