-- Events appended to a walk.
use Rattle.std.proofs.Common.{◌≡◌, ℕ, ◌+◌, ◌≤◌, Bool, true, false, not, List, [], ◌∷◌, ◌++◌, length, sym, ap, subst, ◌∙◌, refl, arith, length-append, append_assoc, append-nil}
use Rattle.std.proofs.lemmas.Bool.{and_parts}
use Rattle.hm_base.specs.Walks.{Event, doctype, start, text, comment, end, Element, path_after_event, path_after, walk_size, with_text, text_before, pushed, pushes, begins_text}
use Rattle.hm_elements.specs.Paths.{is_in_raw}
use Rattle.hm_tree.specs.Trees.{HasRoom, last_agrees, agrees}
use Rattle.hm_tree.specs.Rows.{is_text}
use Rattle.hm_tree.proofs.RoomLemmas.{last_agrees-push, last_agrees-with_text, path_after-with_text}
use Rattle.hm_insertion.specs.Building.{grown}
use Rattle.hm_insertion.specs.Inside.{is_apart, each_byte, has_no_text, IsWalkTo}

pub path_after-append : (path : List Element) (w v : List Event) → path_after path (w ++ v) ≡ path_after (path_after path w) v
path_after-append path [] v = refl
path_after-append path (e ∷ w) v = path_after-append (path_after_event path e) w v

pub walk_size-append : (w v : List Event) → walk_size (w ++ v) ≡ walk_size w + walk_size v
walk_size-append [] v = omega arith
walk_size-append (e ∷ w) v = omega (arith, walk_size-append w v)

closes : (path : List Element) (w : List Event) → length path ≤ length (path_after path w) + length w
closes path [] = omega arith
closes path (doctype legacy ∷ w) = omega (arith, closes path w)
closes path (start n foreign attributes ∷ w) = omega (arith, closes (record { name = n; foreign = foreign } ∷ path) w)
closes path (text s raw ∷ w) = omega (arith, closes path w)
closes path (comment s ∷ w) = omega (arith, closes path w)
closes [] (end n foreign ∷ w) = omega arith
closes (e ∷ path) (end n foreign ∷ w) = omega (arith, closes path w)

-- a prefix of events that have room has room
pub HasRoom-front : (w v : List Event) → HasRoom (w ++ v) → HasRoom w
HasRoom-front w v room = record {
  events = omega (arith, room.events, length-append w v, closes (path_after [] w) v, ap length (path_after-append [] w v));
  bytes = omega (arith, room.bytes, walk_size-append w v);
}

pub HasRoom-one : (w : List Event) (e : Event) (v : List Event) → HasRoom (w ++ e ∷ v) → HasRoom (w ++ e ∷ [])
HasRoom-one w e v room = HasRoom-front (w ++ e ∷ []) v (rw (append_assoc w (e ∷ []) v) room)

text_before-twice : (s t : List ℕ) (raw next_raw : Bool) (v : List Event) → text_before (s ++ t) raw v ≡ text_before s raw (text_before t next_raw v)
text_before-twice s t raw next_raw [] = refl
text_before-twice s t raw next_raw (doctype legacy ∷ v) = refl
text_before-twice s t raw next_raw (start n foreign attributes ∷ v) = refl
text_before-twice s t raw next_raw (text u last_raw ∷ v) = ap (λ x. text x raw ∷ v) (append_assoc s t u)
text_before-twice s t raw next_raw (comment u ∷ v) = refl
text_before-twice s t raw next_raw (end n foreign ∷ v) = refl

text_pushes : (s : List ℕ) (raw : Bool) (u v : List Event) → pushes (text_before s raw u) v ≡ text_before s raw (pushes u v)
text_pushes s raw [] v = refl
text_pushes s raw (doctype legacy ∷ u) v = refl
text_pushes s raw (start n foreign attributes ∷ u) v = refl
text_pushes s raw (text t next_raw ∷ u) v = text_before-twice s t raw next_raw (pushes u v)
text_pushes s raw (comment t ∷ u) v = refl
text_pushes s raw (end n foreign ∷ u) v = refl

pushed_pushes : (e : Event) (u v : List Event) → pushes (pushed e u) v ≡ pushed e (pushes u v)
pushed_pushes (doctype legacy) u v = refl
pushed_pushes (start n foreign attributes) u v = refl
pushed_pushes (text s raw) u v = text_pushes s raw u v
pushed_pushes (comment s) u v = refl
pushed_pushes (end n foreign) u v = refl

-- joined events join what follows as they would one by one
pub pushes_pushes : (u v w : List Event) → pushes (pushes u v) w ≡ pushes u (pushes v w)
pushes_pushes [] v w = refl
pushes_pushes (e ∷ u) v w = pushed_pushes e (pushes u v) w ∙ ap (λ x. pushed e x) (pushes_pushes u v w)

pub pushes-append : (u v w : List Event) → pushes (u ++ v) w ≡ pushes u (pushes v w)
pushes-append [] v w = refl
pushes-append (e ∷ u) v w = ap (λ x. pushed e x) (pushes-append u v w)

-- what follows is appended to a grown walk as to the walk and its events
pub grown_pushes : (w es v : List Event) → pushes (grown w es) v ≡ pushes w (pushes es v)
unfolding grown
grown_pushes w es v = pushes_pushes (w ++ es) [] v ∙ pushes-append w es v

pub grown_grown : (w es fs : List Event) → grown (grown w es) fs ≡ grown w (es ++ fs)
unfolding grown
grown_grown w es fs =
    pushes-append (pushes (w ++ es) []) fs [] ∙ pushes_pushes (w ++ es) [] (pushes fs []) ∙ sym (pushes-append (w ++ es) fs []) ∙ ap (λ x. pushes x []) (append_assoc w es fs)

apart_before : (s : List ℕ) (raw : Bool) (v : List Event) → is_apart v ≡ true → is_apart (text_before s raw v) ≡ true
apart_before s raw [] h = refl
apart_before s raw (doctype legacy ∷ v) h = h
apart_before s raw (start n foreign attributes ∷ v) h = h
apart_before s raw (text t next_raw ∷ v) h = h
apart_before s raw (comment t ∷ v) h = h
apart_before s raw (end n foreign ∷ v) h = h

pub apart_pushes : (u v : List Event) → is_apart v ≡ true → is_apart (pushes u v) ≡ true
apart_pushes [] v h = h
apart_pushes (doctype legacy ∷ u) v h = apart_pushes u v h
apart_pushes (start n foreign attributes ∷ u) v h = apart_pushes u v h
apart_pushes (text s raw ∷ u) v h = apart_before s raw (pushes u v) (apart_pushes u v h)
apart_pushes (comment s ∷ u) v h = apart_pushes u v h
apart_pushes (end n foreign ∷ u) v h = apart_pushes u v h

pub apart_grown : (w es : List Event) → is_apart (grown w es) ≡ true
unfolding grown
apart_grown w es = apart_pushes (w ++ es) [] refl

before_other : (s : List ℕ) (raw : Bool) (v : List Event) → begins_text v ≡ false → text_before s raw v ≡ text s raw ∷ v
before_other s raw [] h = refl
before_other s raw (doctype legacy ∷ v) h = refl
before_other s raw (start n foreign attributes ∷ v) h = refl
before_other s raw (text t next_raw ∷ v) h = absurd (cc)
before_other s raw (comment t ∷ v) h = refl
before_other s raw (end n foreign ∷ v) h = refl

begins_same : (w v : List Event) → begins_text w ≡ false → begins_text v ≡ false → begins_text (w ++ v) ≡ false
begins_same [] v h k = k
begins_same (doctype legacy ∷ w) v h k = refl
begins_same (start n foreign attributes ∷ w) v h k = refl
begins_same (text t raw ∷ w) v h k = absurd (cc)
begins_same (comment t ∷ w) v h k = refl
begins_same (end n foreign ∷ w) v h k = refl

not_false : (b : Bool) → not b ≡ true → b ≡ false
not_false true h = cc
not_false false h = refl

-- nothing joins where no texts touch and no text follows
pub pushes_tags : (w v : List Event) → is_apart w ≡ true → begins_text v ≡ false → pushes w v ≡ w ++ v
pushes_tags [] v h k = refl
pushes_tags (doctype legacy ∷ w) v h k = ap (λ x. doctype legacy ∷ x) (pushes_tags w v h k)
pushes_tags (start n foreign attributes ∷ w) v h k = ap (λ x. start n foreign attributes ∷ x) (pushes_tags w v h k)
pushes_tags (text s raw ∷ w) v h k =
    let parts : (not (begins_text w) ≡ true) × (is_apart w ≡ true) = and_parts (not (begins_text w)) (is_apart w) h in
    ap (text_before s raw) (pushes_tags w v parts.1 k) ∙ before_other s raw (w ++ v) (begins_same w v (not_false (begins_text w) parts.0) k)
pushes_tags (comment s ∷ w) v h k = ap (λ x. comment s ∷ x) (pushes_tags w v h k)
pushes_tags (end n foreign ∷ w) v h k = ap (λ x. end n foreign ∷ x) (pushes_tags w v h k)

no_text_begins : (es : List Event) → has_no_text es ≡ true → begins_text es ≡ false
no_text_begins [] h = refl
no_text_begins (doctype legacy ∷ es) h = refl
no_text_begins (start n foreign attributes ∷ es) h = refl
no_text_begins (text s raw ∷ es) h = absurd (cc)
no_text_begins (comment s ∷ es) h = refl
no_text_begins (end n foreign ∷ es) h = refl

no_text_pushes : (es : List Event) → has_no_text es ≡ true → pushes es [] ≡ es
no_text_pushes [] h = refl
no_text_pushes (doctype legacy ∷ es) h = ap (λ x. doctype legacy ∷ x) (no_text_pushes es h)
no_text_pushes (start n foreign attributes ∷ es) h = ap (λ x. start n foreign attributes ∷ x) (no_text_pushes es h)
no_text_pushes (text s raw ∷ es) h = absurd (cc)
no_text_pushes (comment s ∷ es) h = ap (λ x. comment s ∷ x) (no_text_pushes es h)
no_text_pushes (end n foreign ∷ es) h = ap (λ x. end n foreign ∷ x) (no_text_pushes es h)

-- events without a text are appended to a walk as they are
pub grown_tags : (w es : List Event) → is_apart w ≡ true → has_no_text es ≡ true → grown w es ≡ w ++ es
unfolding grown
grown_tags w es h k = pushes-append w es [] ∙ ap (pushes w) (no_text_pushes es k) ∙ pushes_tags w es h (no_text_begins es k)

pub grown_nothing : (w : List Event) → is_apart w ≡ true → grown w [] ≡ w
grown_nothing w h = grown_tags w [] h refl ∙ nothing w
  where
    nothing : (v : List Event) → v ++ [] ≡ v
    nothing [] = refl
    nothing (e ∷ v) = ap (λ x. e ∷ x) (nothing v)

one_text : (c : ℕ) (s : List ℕ) (raw : Bool) → pushes (each_byte (c ∷ s) raw) [] ≡ text (c ∷ s) raw ∷ []
one_text c [] raw = refl
one_text c (d ∷ s) raw = ap (text_before (c ∷ []) raw) (one_text d s raw)

with_text-pushed : (e : Event) (w : List Event) (c : ℕ) (s : List ℕ) (raw : Bool) → is_apart (e ∷ w) ≡ true → pushes w (text (c ∷ s) raw ∷ []) ≡ with_text w (c ∷ s) raw → pushed e (pushes w (text (c ∷ s) raw ∷ [])) ≡ with_text (e ∷ w) (c ∷ s) raw
with_text-pushed (doctype legacy) w c s raw h k = ap (λ x. doctype legacy ∷ x) k
with_text-pushed (start n foreign attributes) w c s raw h k = ap (λ x. start n foreign attributes ∷ x) k
with_text-pushed (comment t) w c s raw h k = ap (λ x. comment t ∷ x) k
with_text-pushed (end n foreign) w c s raw h k = ap (λ x. end n foreign ∷ x) k
with_text-pushed (text t last_raw) [] c s raw h k = refl
with_text-pushed (text t last_raw) (doctype legacy ∷ w) c s raw h k = ap (text_before t last_raw) k
with_text-pushed (text t last_raw) (start n foreign attributes ∷ w) c s raw h k = ap (text_before t last_raw) k
with_text-pushed (text t last_raw) (text u next_raw ∷ w) c s raw h k = absurd (cc)
with_text-pushed (text t last_raw) (comment u ∷ w) c s raw h k = ap (text_before t last_raw) k
with_text-pushed (text t last_raw) (end n foreign ∷ w) c s raw h k = ap (text_before t last_raw) k

apart_tail : (e : Event) (w : List Event) → is_apart (e ∷ w) ≡ true → is_apart w ≡ true
apart_tail (doctype legacy) w h = h
apart_tail (start n foreign attributes) w h = h
apart_tail (text s raw) w h = (and_parts (not (begins_text w)) (is_apart w) h).1
apart_tail (comment s) w h = h
apart_tail (end n foreign) w h = h

pushes_text : (w : List Event) (c : ℕ) (s : List ℕ) (raw : Bool) → is_apart w ≡ true → pushes w (text (c ∷ s) raw ∷ []) ≡ with_text w (c ∷ s) raw
pushes_text [] c s raw h = refl
pushes_text (e ∷ w) c s raw h = with_text-pushed e w c s raw h (pushes_text w c s raw (apart_tail e w h))

pub grown_is : (w es : List Event) → grown w es ≡ pushes w (pushes es [])
unfolding grown
grown_is w es = pushes-append w es []

-- a text is appended to a walk byte by byte or as a whole
pub grown_text : (w : List Event) (s : List ℕ) (raw : Bool) → is_apart w ≡ true → grown w (each_byte s raw) ≡ with_text w s raw
grown_text w [] raw h = grown_nothing w h
grown_text w (c ∷ s) raw h = grown_is w (each_byte (c ∷ s) raw) ∙ ap (pushes w) (one_text c s raw) ∙ pushes_text w c s raw h

pub apart_text : (w : List Event) (s : List ℕ) (raw : Bool) → is_apart w ≡ true → is_apart (with_text w s raw) ≡ true
apart_text w s raw h = sym (ap is_apart (grown_text w s raw h)) ∙ apart_grown w (each_byte s raw)

last_tags : (w : List Event) (e : Event) (es : List Event) (raw : Bool) → has_no_text (e ∷ es) ≡ true → last_agrees (w ++ e ∷ es) raw ≡ true
last_tags w e [] raw h = last_agrees-push w e raw ∙ tag_agrees e h
  where
    tag_agrees : (x : Event) → has_no_text (x ∷ []) ≡ true → agrees x raw ≡ true
    tag_agrees (doctype legacy) k = refl
    tag_agrees (start n foreign attributes) k = refl
    tag_agrees (text s is_raw) k = absurd (cc)
    tag_agrees (comment s) k = refl
    tag_agrees (end n foreign) k = refl
last_tags w e (f ∷ es) raw h =
    let parts : (not (is_text e) ≡ true) × (has_no_text (f ∷ es) ≡ true) = and_parts (not (is_text e)) (has_no_text (f ∷ es)) h in
    ap (λ v. last_agrees v raw) (sym (append_assoc w (e ∷ []) (f ∷ es))) ∙ last_tags (w ++ e ∷ []) f es raw parts.1

-- the walk after tags, comments and a doctype
pub walk_tags : (w : List Event) (path : List Element) (e : Event) (es : List Event) (after : List Element) → IsWalkTo w path → has_no_text (e ∷ es) ≡ true → path_after path (e ∷ es) ≡ after → IsWalkTo (w ++ e ∷ es) after
walk_tags w path e es after walk tags leads = record {
  leads = path_after-append [] w (e ∷ es) ∙ ap (λ p. path_after p (e ∷ es)) walk.leads ∙ leads;
  same_raw = last_tags w e es (is_in_raw after) tags;
  apart = sym (ap is_apart (grown_tags w (e ∷ es) walk.apart tags)) ∙ apart_grown w (e ∷ es);
}

-- the walk after a text
pub walk_text : (w : List Event) (path : List Element) (s : List ℕ) → IsWalkTo w path → IsWalkTo (with_text w s (is_in_raw path)) path
walk_text w path s walk = record {
  leads = path_after-with_text [] w s (is_in_raw path) ∙ walk.leads;
  same_raw = last_agrees-with_text w s (is_in_raw path) walk.same_raw;
  apart = apart_text w s (is_in_raw path) walk.apart;
}

-- the same of any number of tags
pub walk_any : (w : List Event) (path : List Element) (es : List Event) (after : List Element) → IsWalkTo w path → has_no_text es ≡ true → path_after path es ≡ after → IsWalkTo (w ++ es) after
walk_any w path [] after walk tags leads = subst (λ v. IsWalkTo v after) (sym (append-nil w)) (subst (IsWalkTo w) leads walk)
walk_any w path (e ∷ es) after walk tags leads = walk_tags w path e es after walk tags leads
