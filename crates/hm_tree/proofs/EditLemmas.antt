-- Walks in which a text has other bytes or is left out.
use Rattle.std.proofs.Common.{◌≡◌, ℕ, ◌+◌, ◌≤◌, Bool, true, false, not, List, [], ◌∷◌, ◌++◌, length, Some, sym, ◌∙◌, refl, arith, length-append}
use Rattle.std.proofs.lemmas.Bool.{and_parts, and_from}
use Rattle.std.specs.Str.{is_utf8}
use Rattle.hm_base.specs.Bytes.{is_null}
use Rattle.hm_base.specs.Walks.{Event, doctype, start, text, comment, end, Element, begins_text, path_after_event, path_after, ends_match, walk_size}
use Rattle.hm_tree.specs.Edits.{last_event}
use Rattle.hm_tree.specs.Trees.{IsMade, IsTold, IsWalk, is_sound, are_sound, is_apart, are_texts_apart}
use Rattle.hm_tree.proofs.ApartLemmas.{begins_alike, apart_alike}
use Rattle.hm_tree.proofs.MovedLemmas.{ends_more}

pub walk_size-append : (v w : List Event) → walk_size (v ++ w) ≡ walk_size v + walk_size w
walk_size-append [] w = omega arith
walk_size-append (e ∷ v) w = omega (arith, walk_size-append v w)

pub are_sound-append : (v w : List Event) → are_sound (v ++ w) ≡ true → (are_sound v ≡ true) × (are_sound w ≡ true)
are_sound-append [] w h = (refl, h)
are_sound-append (e ∷ v) w h =
    let parts = and_parts (is_sound e) (are_sound (v ++ w)) h in
    let rest = are_sound-append v w parts.1 in
    (and_from (is_sound e) (are_sound v) parts.0 rest.0, rest.1)

pub are_sound-both : (v w : List Event) → are_sound v ≡ true → are_sound w ≡ true → are_sound (v ++ w) ≡ true
are_sound-both [] w h g = g
are_sound-both (e ∷ v) w h g =
    let parts = and_parts (is_sound e) (are_sound v) h in
    and_from (is_sound e) (are_sound (v ++ w)) parts.0 (are_sound-both v w parts.1 g)

-- what goes before is told too
pub IsTold-front : (v w : List Event) → IsTold (v ++ w) → IsTold v
IsTold-front v w h = record {
  sound = (are_sound-append v w h.sound).0;
  events = omega (arith, h.events, length-append v w);
  bytes = omega (arith, h.bytes, walk_size-append v w);
}

-- the same events around a text, or around none
module _ (u : List ℕ) (raw : Bool) (l : List Event) where
  abbrev old : List Event
  old = text u raw ∷ l

  ends_without : (v : List Event) (path : List Element) → ends_match path (v ++ old) ≡ ends_match path (v ++ l)
  ends_without [] path = refl
  ends_without (e ∷ v) path = ends_more path e (v ++ old) (v ++ l) (λ p. ends_without v p)

  path_without : (v : List Event) (path : List Element) → path_after path (v ++ old) ≡ path_after path (v ++ l)
  path_without [] path = refl
  path_without (e ∷ v) path = path_without v (path_after_event path e)

  one_apart : (e : Event) → is_apart e old ≡ true → is_apart e l ≡ true
  one_apart (doctype legacy) h = refl
  one_apart (start n foreign attributes) h = refl
  one_apart (text s is_raw) h =
      let parts = and_parts (not (is_null s)) false h in
      absurd (let off = parts.1 in cc)
  one_apart (comment s) h = refl
  one_apart (end n foreign) h = refl

  apart_without : (v : List Event) → are_texts_apart (v ++ old) ≡ true → are_texts_apart (v ++ l) ≡ true
  apart_without [] h = (and_parts (is_apart (text u raw) l) (are_texts_apart l) h).1
  apart_without (e ∷ []) h =
      let parts = and_parts (is_apart e old) (are_texts_apart old) h in
      and_from (is_apart e l) (are_texts_apart l) (one_apart e parts.0) (apart_without [] parts.1)
  apart_without (e ∷ x ∷ v) h =
      let parts = and_parts (is_apart e (x ∷ (v ++ old))) (are_texts_apart (x ∷ (v ++ old))) h in
      and_from (is_apart e (x ∷ (v ++ l))) (are_texts_apart (x ∷ (v ++ l))) (apart_alike e (x ∷ (v ++ l)) (x ∷ (v ++ old)) (begins_alike x (v ++ l) (v ++ old)) ∙ parts.0) (apart_without (x ∷ v) parts.1)

  pub IsMade-without : (v : List Event) → IsMade (v ++ old) → IsMade (v ++ l)
  IsMade-without v h = record {
    matched = sym (ends_without v []) ∙ h.matched;
    closed = sym (path_without v []) ∙ h.closed;
    apart = apart_without v h.apart;
  }

  pub IsTold-without : (v : List Event) → IsTold (v ++ old) → IsTold (v ++ l)
  IsTold-without v h =
      let parts = are_sound-append v old h.sound in
      record {
        sound = are_sound-both v l parts.0 (and_parts (is_utf8 u) (are_sound l) parts.1).1;
        events = omega (arith, h.events, length-append v old, length-append v l);
        bytes = omega (arith, h.bytes, walk_size-append v old, walk_size-append v l);
      }

  -- another text in its place
  module _ (t : List ℕ) (some : is_null t ≡ false) where
    abbrev new : List Event
    new = text t raw ∷ l

    ends_with : (v : List Event) (path : List Element) → ends_match path (v ++ new) ≡ ends_match path (v ++ old)
    ends_with [] path = refl
    ends_with (e ∷ v) path = ends_more path e (v ++ new) (v ++ old) (λ p. ends_with v p)

    path_with : (v : List Event) (path : List Element) → path_after path (v ++ new) ≡ path_after path (v ++ old)
    path_with [] path = refl
    path_with (e ∷ v) path = path_with v (path_after_event path e)

    begins_with : (v : List Event) → begins_text (v ++ new) ≡ begins_text (v ++ old)
    begins_with [] = refl
    begins_with (e ∷ v) = begins_alike e (v ++ new) (v ++ old)

    apart_with : (v : List Event) → are_texts_apart (v ++ old) ≡ true → are_texts_apart (v ++ new) ≡ true
    apart_with [] h =
        let parts = and_parts (is_apart (text u raw) l) (are_texts_apart l) h in
        let mine = and_parts (not (is_null u)) (not (begins_text l)) parts.0 in
        rw (some, mine.1, parts.1) refl
    apart_with (e ∷ v) h =
        let parts = and_parts (is_apart e (v ++ old)) (are_texts_apart (v ++ old)) h in
        and_from (is_apart e (v ++ new)) (are_texts_apart (v ++ new)) (apart_alike e (v ++ new) (v ++ old) (begins_with v) ∙ parts.0) (apart_with v parts.1)

    pub IsMade-with : (v : List Event) → IsMade (v ++ old) → IsMade (v ++ new)
    IsMade-with v h = record {
      matched = ends_with v [] ∙ h.matched;
      closed = path_with v [] ∙ h.closed;
      apart = apart_with v h.apart;
    }

    pub IsTold-with : (v : List Event) → is_utf8 t ≡ true → length t ≤ length u → IsTold (v ++ old) → IsTold (v ++ new)
    IsTold-with v utf8 short h =
        let parts = are_sound-append v old h.sound in
        record {
          sound = are_sound-both v new parts.0 (and_from (is_utf8 t) (are_sound l) utf8 (and_parts (is_utf8 u) (are_sound l) parts.1).1);
          events = omega (arith, h.events, length-append v old, length-append v new);
          bytes = omega (arith, h.bytes, short, walk_size-append v old, walk_size-append v new);
        }

-- ---- What a caller asks

pub IsWalk-of : (w : List Event) → IsTold w → IsMade w → IsWalk w
IsWalk-of w told made = record {
  matched = made.matched;
  closed = made.closed;
  apart = made.apart;
  sound = told.sound;
  events = told.events;
  bytes = told.bytes;
}

pub last_event-push : (v : List Event) (e : Event) → last_event (v ++ e ∷ []) ≡ Some e
last_event-push [] e = refl
last_event-push (x ∷ []) e = refl
last_event-push (x ∷ y ∷ v) e = last_event-push (y ∷ v) e

-- no text follows a text
pub no_text_next : (v : List Event) (s : List ℕ) (raw : Bool) (l : List Event) → are_texts_apart (v ++ text s raw ∷ l) ≡ true → begins_text l ≡ false
no_text_next [] s raw l h =
    let parts = and_parts (not (is_null s)) (not (begins_text l)) ((and_parts (is_apart (text s raw) l) (are_texts_apart l) h).0) in
    off (begins_text l) parts.1
  where
    off : (b : Bool) → not b ≡ true → b ≡ false
    off true e = absurd (cc)
    off false e = refl
no_text_next (e ∷ v) s raw l h = no_text_next v s raw l (and_parts (is_apart e (v ++ text s raw ∷ l)) (are_texts_apart (v ++ text s raw ∷ l)) h).1
