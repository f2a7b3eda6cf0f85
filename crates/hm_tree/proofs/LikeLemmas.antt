-- Walks in which an event is another one, or in which texts and comments go.
use Rattle.std.proofs.Common.{◌≡◌, ℕ, ◌+◌, ◌^◌, ◌<◌, ◌≤◌, Bool, true, false, not, ◌&&◌, List, [], ◌∷◌, ◌++◌, length, sym, ap, ◌∙◌, refl, arith, length-append}
use Rattle.std.proofs.lemmas.Bool.{and_parts, and_from}
use Rattle.std.specs.Str.{is_utf8}
use Rattle.hm_base.specs.Bytes.{is_null}
use Rattle.hm_base.specs.Walks.{Event, doctype, start, text, comment, end, Element, begins_text, path_after_event, path_after, ends_match, event_size, walk_size}
use Rattle.hm_tree.specs.Edits.{is_loose, are_loose}
use Rattle.hm_tree.specs.Rows.{is_text, ends_in_text}
use Rattle.hm_tree.specs.Trees.{IsMade, IsTold, is_sound, are_sound, is_apart, are_texts_apart}
use Rattle.hm_tree.proofs.ApartLemmas.{begins_alike, apart_alike}
use Rattle.hm_tree.proofs.EditLemmas.{are_sound-append, are_sound-both, walk_size-append}
use Rattle.hm_tree.proofs.MovedLemmas.{ends_more}

-- An event opens, closes and keeps apart what another one does.
pub record IsLike (old new : Event) : Type 0 where
  pub after : (path : List Element) → path_after_event path new ≡ path_after_event path old
  pub ends : (path : List Element) (w : List Event) → ends_match path (new ∷ w) ≡ ends_match path (old ∷ w)
  pub apart : (w : List Event) → is_apart new w ≡ is_apart old w
  pub begins : (w : List Event) → begins_text (new ∷ w) ≡ begins_text (old ∷ w)

module _ (old new : Event) (like : IsLike old new) (l : List Event) where
  ends_like : (v : List Event) (path : List Element) → ends_match path (v ++ new ∷ l) ≡ ends_match path (v ++ old ∷ l)
  ends_like [] path = like.ends path l
  ends_like (e ∷ v) path = ends_more path e (v ++ new ∷ l) (v ++ old ∷ l) (λ p. ends_like v p)

  path_like : (v : List Event) (path : List Element) → path_after path (v ++ new ∷ l) ≡ path_after path (v ++ old ∷ l)
  path_like [] path = ap (λ p. path_after p l) (like.after path)
  path_like (e ∷ v) path = path_like v (path_after_event path e)

  begins_like : (v : List Event) → begins_text (v ++ new ∷ l) ≡ begins_text (v ++ old ∷ l)
  begins_like [] = like.begins l
  begins_like (e ∷ v) = begins_alike e (v ++ new ∷ l) (v ++ old ∷ l)

  apart_like : (v : List Event) → are_texts_apart (v ++ new ∷ l) ≡ are_texts_apart (v ++ old ∷ l)
  apart_like [] = ap (λ b. b && are_texts_apart l) (like.apart l)
  apart_like (e ∷ v) = rw (apart_alike e (v ++ new ∷ l) (v ++ old ∷ l) (begins_like v), apart_like v) refl

  pub IsMade-like : (v : List Event) → IsMade (v ++ old ∷ l) → IsMade (v ++ new ∷ l)
  IsMade-like v h = record {
    matched = ends_like v [] ∙ h.matched;
    closed = path_like v [] ∙ h.closed;
    apart = apart_like v ∙ h.apart;
  }

  pub IsTold-like : (v : List Event) → is_sound new ≡ true → event_size new ≤ event_size old → IsTold (v ++ old ∷ l) → IsTold (v ++ new ∷ l)
  IsTold-like v sound size h =
      let parts = are_sound-append v (old ∷ l) h.sound in
      record {
        sound = are_sound-both v (new ∷ l) parts.0 (and_from (is_sound new) (are_sound l) sound (and_parts (is_sound old) (are_sound l) parts.1).1);
        events = omega (arith, h.events, length-append v (old ∷ l), length-append v (new ∷ l));
        bytes = omega (arith, h.bytes, size, walk_size-append v (old ∷ l), walk_size-append v (new ∷ l));
      }

-- ---- A comment goes that stands after no text

module _ (u : List ℕ) (l : List Event) where
  abbrev with_comment : List Event
  with_comment = comment u ∷ l

  ends_uncommented : (v : List Event) (path : List Element) → ends_match path (v ++ with_comment) ≡ ends_match path (v ++ l)
  ends_uncommented [] path = refl
  ends_uncommented (e ∷ v) path = ends_more path e (v ++ with_comment) (v ++ l) (λ p. ends_uncommented v p)

  path_uncommented : (v : List Event) (path : List Element) → path_after path (v ++ with_comment) ≡ path_after path (v ++ l)
  path_uncommented [] path = refl
  path_uncommented (e ∷ v) path = path_uncommented v (path_after_event path e)

  other_apart : (e : Event) (w : List Event) → is_text e ≡ false → is_apart e w ≡ true
  other_apart (doctype legacy) w h = refl
  other_apart (start n foreign attributes) w h = refl
  other_apart (text s raw) w h = absurd (cc)
  other_apart (comment s) w h = refl
  other_apart (end n foreign) w h = refl

  apart_uncommented : (v : List Event) → ends_in_text v ≡ false → are_texts_apart (v ++ with_comment) ≡ true → are_texts_apart (v ++ l) ≡ true
  apart_uncommented [] other h = (and_parts (is_apart (comment u) l) (are_texts_apart l) h).1
  apart_uncommented (e ∷ []) other h =
      let parts = and_parts (is_apart e with_comment) (are_texts_apart with_comment) h in
      and_from (is_apart e l) (are_texts_apart l) (other_apart e l other) (apart_uncommented [] refl parts.1)
  apart_uncommented (e ∷ x ∷ v) other h =
      let parts = and_parts (is_apart e (x ∷ (v ++ with_comment))) (are_texts_apart (x ∷ (v ++ with_comment))) h in
      and_from (is_apart e (x ∷ (v ++ l))) (are_texts_apart (x ∷ (v ++ l))) (apart_alike e (x ∷ (v ++ l)) (x ∷ (v ++ with_comment)) (begins_alike x (v ++ l) (v ++ with_comment)) ∙ parts.0) (apart_uncommented (x ∷ v) other parts.1)

  pub IsMade-uncommented : (v : List Event) → ends_in_text v ≡ false → IsMade (v ++ with_comment) → IsMade (v ++ l)
  IsMade-uncommented v other h = record {
    matched = sym (ends_uncommented v []) ∙ h.matched;
    closed = sym (path_uncommented v []) ∙ h.closed;
    apart = apart_uncommented v other h.apart;
  }

  pub IsTold-uncommented : (v : List Event) → IsTold (v ++ with_comment) → IsTold (v ++ l)
  IsTold-uncommented v h =
      let parts = are_sound-append v with_comment h.sound in
      record {
        sound = are_sound-both v l parts.0 (and_parts (is_utf8 u) (are_sound l) parts.1).1;
        events = omega (arith, h.events, length-append v with_comment, length-append v l);
        bytes = omega (arith, h.bytes, walk_size-append v with_comment, walk_size-append v l);
      }

-- ---- A text in place of a text and of the texts and comments after it

ends_loose : (mid l : List Event) (path : List Element) → are_loose mid ≡ true → ends_match path (mid ++ l) ≡ ends_match path l
ends_loose [] l path h = refl
ends_loose (doctype legacy ∷ mid) l path h = absurd (cc)
ends_loose (start n foreign attributes ∷ mid) l path h = absurd (cc)
ends_loose (text s raw ∷ mid) l path h = ends_loose mid l path h
ends_loose (comment s ∷ mid) l path h = ends_loose mid l path h
ends_loose (end n foreign ∷ mid) l path h = absurd (cc)

path_loose : (mid l : List Event) (path : List Element) → are_loose mid ≡ true → path_after path (mid ++ l) ≡ path_after path l
path_loose [] l path h = refl
path_loose (doctype legacy ∷ mid) l path h = absurd (cc)
path_loose (start n foreign attributes ∷ mid) l path h = absurd (cc)
path_loose (text s raw ∷ mid) l path h = path_loose mid l path h
path_loose (comment s ∷ mid) l path h = path_loose mid l path h
path_loose (end n foreign ∷ mid) l path h = absurd (cc)

apart_after : (mid l : List Event) → are_texts_apart (mid ++ l) ≡ true → are_texts_apart l ≡ true
apart_after [] l h = h
apart_after (e ∷ mid) l h = apart_after mid l (and_parts (is_apart e (mid ++ l)) (are_texts_apart (mid ++ l)) h).1

module _ (u : List ℕ) (raw : Bool) (mid l : List Event) (loose : are_loose mid ≡ true) (apart : begins_text l ≡ false) (t : List ℕ) (some : is_null t ≡ false) where
  abbrev apart_texts : List Event
  apart_texts = text u raw ∷ (mid ++ l)

  abbrev joined : List Event
  joined = text t raw ∷ l

  ends_joined : (v : List Event) (path : List Element) → ends_match path (v ++ joined) ≡ ends_match path (v ++ apart_texts)
  ends_joined [] path = sym (ends_loose mid l path loose)
  ends_joined (e ∷ v) path = ends_more path e (v ++ joined) (v ++ apart_texts) (λ p. ends_joined v p)

  path_joined : (v : List Event) (path : List Element) → path_after path (v ++ joined) ≡ path_after path (v ++ apart_texts)
  path_joined [] path = sym (path_loose mid l path loose)
  path_joined (e ∷ v) path = path_joined v (path_after_event path e)

  begins_joined : (v : List Event) → begins_text (v ++ joined) ≡ begins_text (v ++ apart_texts)
  begins_joined [] = refl
  begins_joined (e ∷ v) = begins_alike e (v ++ joined) (v ++ apart_texts)

  apart_joined : (v : List Event) → are_texts_apart (v ++ apart_texts) ≡ true → are_texts_apart (v ++ joined) ≡ true
  apart_joined [] h =
      let rest = apart_after mid l (and_parts (is_apart (text u raw) (mid ++ l)) (are_texts_apart (mid ++ l)) h).1 in
      rw (some, apart, rest) refl
  apart_joined (e ∷ v) h =
      let parts = and_parts (is_apart e (v ++ apart_texts)) (are_texts_apart (v ++ apart_texts)) h in
      and_from (is_apart e (v ++ joined)) (are_texts_apart (v ++ joined)) (apart_alike e (v ++ joined) (v ++ apart_texts) (begins_joined v) ∙ parts.0) (apart_joined v parts.1)

  pub IsMade-joined : (v : List Event) → IsMade (v ++ apart_texts) → IsMade (v ++ joined)
  IsMade-joined v h = record {
    matched = ends_joined v [] ∙ h.matched;
    closed = path_joined v [] ∙ h.closed;
    apart = apart_joined v h.apart;
  }

  pub IsTold-joined : (v : List Event) → is_utf8 t ≡ true → length t ≤ length u + walk_size mid → IsTold (v ++ apart_texts) → IsTold (v ++ joined)
  IsTold-joined v utf8 short h =
      let parts = are_sound-append v apart_texts h.sound in
      let rest = are_sound-append mid l (and_parts (is_utf8 u) (are_sound (mid ++ l)) parts.1).1 in
      record {
        sound = are_sound-both v joined parts.0 (and_from (is_utf8 t) (are_sound l) utf8 rest.1);
        events = omega (arith, h.events, length-append v apart_texts, length-append v joined, length-append mid l);
        bytes = omega (arith, h.bytes, short, walk_size-append v apart_texts, walk_size-append v joined, walk_size-append mid l);
      }
