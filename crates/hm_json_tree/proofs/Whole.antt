-- Bytes, by what their JSON is, and items, by those that were read.
use Rattle.std.proofs.Common.{◌≡◌, ℕ, zero, suc, ◌+◌, ◌-◌, ◌<◌, ◌≤◌, nat_lt, Bool, true, false, cond, ◌&&◌, List, [], ◌∷◌, ◌++◌, length, drop, get_or, Option, Some, None, refl, sym, ap, ◌∙◌, arith, drop-cons}
use Rattle.std.proofs.lemmas.Bool.{and_parts, and_from}
use Rattle.std.specs.Str.{is_utf8}
use Rattle.hm_base.specs.Walks.{Attribute, Event, doctype, start, text, comment, end, Element, path_after_event, has_distinct_names}
use Rattle.hm_elements.specs.Settled.{all_events, all_utf8, is_event_utf8}
use Rattle.hm_tree.specs.Attributes.{are_texts}
use Rattle.hm_tree.specs.Trees.{are_sound}
use Rattle.serde_json.specs.Data.{Data, Items}
use Rattle.serde_json.specs.Find.{as_array}
use Rattle.serde_json.specs.View.{view, items_view}
use Rattle.serde_json.specs.declared.value.Value.{Value}
use Rattle.hm_refs.specs.Json.{json}
use Rattle.hm_json_tree.specs.declared.limits.TheConstants.{JSON_LIMIT}
use Rattle.hm_json_tree.specs.declared.form.JsonEvent.TheVariants.{End}
use Rattle.hm_json_tree.specs.Forms.{event_told}
use Rattle.hm_json_tree.specs.Reading.{Listed, listed, bad_event, left_open, put_event, with_event, event_in, events_in, at_end, too_long, no_event, some_open, not_settled, of_listed, unless_broken, of_array, of_value, json_walk}
use Rattle.hm_json_tree.specs.Breaks.{first_break}
use Rattle.hm_json_tree.specs.Progress.{put_events, AreListed, Follows}
use Rattle.hm_json_tree.proofs.Taken.{put_events-push, put_events-bad, put_events-listed, put_events-open}

-- ---- The bytes

pub long_walk : (bytes : List ℕ) → JSON_LIMIT < length bytes → json_walk bytes ≡ too_long
unfolding json_walk
long_walk bytes l = by (nat_lt JSON_LIMIT (length bytes)) (grind arith)
  where
    by : (b : Bool) → b ≡ true → cond b too_long (of_value (json bytes)) ≡ too_long
    by true e = refl
    by false e = absurd (cc)

module _ (bytes : List ℕ) (short : length bytes ≤ JSON_LIMIT) where
  pub walk_by_json : (o : Option Data) → json bytes ≡ o → json_walk bytes ≡ of_value o
  unfolding json_walk
  walk_by_json o h = by (nat_lt JSON_LIMIT (length bytes)) (grind arith)
    where
      by : (b : Bool) → b ≡ false → cond b too_long (of_value (json bytes)) ≡ of_value o
      by true e = absurd (cc)
      by false e = ap of_value h

  pub walk_by_array : (d : Data) (o : Option Items) → json bytes ≡ Some d → o ≡ as_array d → json_walk bytes ≡ of_array o
  walk_by_array d o h a = walk_by_json (Some d) h ∙ ap of_array (sym a)

-- ---- Texts are UTF-8

all_are_texts : (attributes : List Attribute) → are_texts attributes ≡ true → all_utf8 attributes ≡ true
all_are_texts [] h = refl
all_are_texts (a ∷ attributes) h =
    let two = and_parts (is_utf8 a.name && is_utf8 a.value) (are_texts attributes) h in
    and_from (is_utf8 a.name && is_utf8 a.value) (all_utf8 attributes) two.0 (all_are_texts attributes two.1)

-- what a tree says of its events, as the last rule says it
pub sound_utf8 : (path : List Element) (w : List Event) → are_sound w ≡ true → all_events is_event_utf8 path w ≡ true
unfolding is_event_utf8
sound_utf8 path [] h = refl
sound_utf8 path (doctype legacy ∷ w) h = sound_utf8 path w h
sound_utf8 path (start n f attributes ∷ w) h =
    let two = and_parts (is_utf8 n && are_texts attributes && has_distinct_names attributes) (are_sound w) h in
    let one = and_parts (is_utf8 n && are_texts attributes) (has_distinct_names attributes) two.0 in
    and_from (all_utf8 attributes) _ (all_are_texts attributes (and_parts (is_utf8 n) (are_texts attributes) one.0).1) (sound_utf8 (record { name = n; foreign = f } ∷ path) w two.1)
sound_utf8 path (text s raw ∷ w) h = let two = and_parts (is_utf8 s) (are_sound w) h in and_from (is_utf8 s) _ two.0 (sound_utf8 path w two.1)
sound_utf8 path (comment s ∷ w) h = let two = and_parts (is_utf8 s) (are_sound w) h in and_from (is_utf8 s) _ two.0 (sound_utf8 path w two.1)
sound_utf8 [] (end n f ∷ w) h = sound_utf8 [] w (and_parts (is_utf8 n) (are_sound w) h).1
sound_utf8 (m ∷ path) (end n f ∷ w) h = sound_utf8 path w (and_parts (is_utf8 n) (are_sound w) h).1

-- ---- Items one by one

-- the items from one on, by whether it is an event
one_item : (vs : List Value) (i : ℕ) (path : List Element) (v : Value) (o : Option Event) → v ≡ get_or vs i v → i < length vs → event_in path (view v) ≡ o
    → events_in i path (items_view (drop i vs)) ≡ with_event i o (λ e. events_in (i + 1) (path_after_event path e) (items_view (drop (i + 1) vs)))
one_item vs i path v o at l h =
    let next : suc i ≡ i + 1 = omega arith in
    rw (drop-cons vs i v l, ← at) (ap (λ x. with_event i x (λ e. events_in (i + 1) (path_after_event path e) (items_view (drop (suc i) vs)))) h ∙ ap (λ k. with_event i o (λ e. events_in (i + 1) (path_after_event path e) (items_view (drop k vs)))) next)

-- none before the first item
pub follows_none : (vs : List Value) (i : ℕ) (path : List Element) (n : ℕ) → length path ≡ n → Follows vs i path i n
follows_none vs i path n l = record { events = []; now_open = path; depth_is = l; listed_is = refl }

module _ (vs : List Value) (from : ℕ) (path : List Element) (i depth : ℕ) (f : Follows vs from path i depth) (v : Value) (at : v ≡ get_or vs i v) (l : i < length vs) where
  -- an item that is no event
  pub follows_bad : event_in f.now_open (view v) ≡ None → (w : List Event) → of_listed (put_events w (events_in from path (items_view (drop from vs)))) ≡ no_event i
  follows_bad h w = ap of_listed (ap (put_events w) (f.listed_is ∙ ap (put_events f.events) (one_item vs i f.now_open v None at l h) ∙ put_events-bad f.events i) ∙ put_events-bad w i)

  -- one more event
  pub follows_more : (n : ℕ) → (e : Event) × (event_in f.now_open (view v) ≡ Some e) × (length (path_after_event f.now_open e) ≡ n) → Follows vs from path (i + 1) n
  follows_more n h = record {
    events = f.events ++ h.0 ∷ [];
    now_open = path_after_event f.now_open h.0;
    depth_is = h.2;
    listed_is = f.listed_is ∙ ap (put_events f.events) (one_item vs i f.now_open v (Some h.0) at l h.1) ∙ sym (put_events-push f.events h.0 (events_in (i + 1) (path_after_event f.now_open h.0) (items_view (drop (i + 1) vs))));
  }

no_items_left : (vs : List Value) (i : ℕ) (path : List Element) → length vs ≤ i → events_in i path (items_view (drop i vs)) ≡ at_end path
no_items_left vs i path l = ap (λ us. events_in i path (items_view us)) (drop_all vs i l)
  where
    drop_all : (vs : List Value) (i : ℕ) → length vs ≤ i → drop i vs ≡ []
    drop_all [] zero l = refl
    drop_all [] (suc i) l = refl
    drop_all (v ∷ vs) zero l = absurd (omega (arith, l))
    drop_all (v ∷ vs) (suc i) l = drop_all vs i (omega (arith, l))

-- after the last item
pub follows_end : (vs : List Value) (from : ℕ) (path : List Element) (i depth : ℕ) (f : Follows vs from path i depth) → length vs ≤ i → events_in from path (items_view (drop from vs)) ≡ put_events f.events (at_end f.now_open)
follows_end vs from path i depth f l = f.listed_is ∙ ap (put_events f.events) (no_items_left vs i f.now_open l)

pub ends_closed : (path : List Element) (w : List Event) → length path ≡ 0 → put_events w (at_end path) ≡ listed (w ++ [])
ends_closed [] w l = put_events-listed w []
ends_closed (m ∷ path) w l = absurd (omega (arith, l))

pub open_left : (path : List Element) (w v : List Event) → 0 < length path → of_listed (put_events w (put_events v (at_end path))) ≡ some_open (length path)
open_left [] w v l = absurd (omega (arith, l))
open_left (m ∷ path) w v l = ap of_listed (ap (put_events w) (put_events-open v (suc (length path))) ∙ put_events-open w (suc (length path)))

-- after the last item elements are open
pub follows_open : (vs : List Value) (from : ℕ) (path : List Element) (i depth : ℕ) (f : Follows vs from path i depth) → length vs ≤ i → 0 < depth → (w : List Event) → of_listed (put_events w (events_in from path (items_view (drop from vs)))) ≡ some_open depth
follows_open vs from path i depth f l some w =
    ap (λ x. of_listed (put_events w x)) (follows_end vs from path i depth f l) ∙ open_left f.now_open w f.events (omega (arith, f.depth_is, some)) ∙ ap some_open f.depth_is

-- what is listed after an event begins with it
listed_first : (e : Event) (l : Listed) (x : List Event) → put_event e l ≡ listed x → (y : List Event) × (x ≡ e ∷ y)
listed_first e (listed y) x h = (y, cc)
listed_first e (bad_event i) x h = cc
listed_first e (left_open n) x h = cc

-- ---- What an item changes in how many elements are open

pub opens_one : (path : List Element) (o : Option Event) (n : List ℕ) (f : Bool) (attributes : List Attribute) → o ≡ Some (start n f attributes) → (e : Event) × (o ≡ Some e) × (length (path_after_event path e) ≡ length path + 1)
opens_one path o n f attributes h = (start n f attributes, h, omega arith)

pub closes_one : (path : List Element) (o : Option Event) → o ≡ event_told path End → 0 < length path → (e : Event) × (o ≡ Some e) × (length (path_after_event path e) ≡ length path - 1)
closes_one [] o h l = absurd (omega (arith, l))
closes_one (m ∷ path) o h l = (end m.name m.foreign, h, omega arith)

-- ---- Items read one by one

module _ (vs : List Value) (i : ℕ) (w : List Event) (path : List Element) (so_far : AreListed vs i w path) where
  pub read_bad : (v : Value) → v ≡ get_or vs i v → i < length vs → event_in path (view v) ≡ None → of_listed (events_in 0 [] (items_view vs)) ≡ no_event i
  read_bad v at l h = ap of_listed (so_far ∙ ap (put_events w) (one_item vs i path v None at l h) ∙ put_events-bad w i)

  pub read_more : (v : Value) (e : Event) → v ≡ get_or vs i v → i < length vs → event_in path (view v) ≡ Some e → AreListed vs (i + 1) (w ++ e ∷ []) (path_after_event path e)
  read_more v e at l h = so_far ∙ ap (put_events w) (one_item vs i path v (Some e) at l h) ∙ sym (put_events-push w e (events_in (i + 1) (path_after_event path e) (items_view (drop (i + 1) vs))))

  pub read_end : length vs ≤ i → events_in 0 [] (items_view vs) ≡ put_events w (at_end path)
  read_end l = so_far ∙ ap (put_events w) (no_items_left vs i path l)

  -- the first break, where events stand up to the end
  pub read_broken : (v : Value) (e : Event) (k : ℕ) → v ≡ get_or vs i v → i < length vs → event_in path (view v) ≡ Some e → i ≡ length w → ((x : List Event) → first_break (w ++ e ∷ x) ≡ Some (record { event = length w; point = k }))
      → (x : List Event) → events_in i path (items_view (drop i vs)) ≡ listed x → of_listed (events_in 0 [] (items_view vs)) ≡ not_settled (record { event = i; point = k })
  read_broken v e k at l h count breaks x all =
      let first = listed_first e (events_in (i + 1) (path_after_event path e) (items_view (drop (i + 1) vs))) x (sym (one_item vs i path v (Some e) at l h) ∙ all) in
      ap of_listed (so_far ∙ ap (put_events w) all ∙ put_events-listed w x) ∙ ap (λ b. unless_broken b (w ++ x)) (ap (λ y. first_break (w ++ y)) first.1 ∙ breaks first.0) ∙ ap (λ n. not_settled (record { event = n; point = k })) (sym count)
