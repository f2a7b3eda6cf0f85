-- Walks that are rewritten event by event.
use Rattle.std.proofs.Common.{◌≡◌, ℕ, zero, suc, ◌≤◌, true, List, [], ◌∷◌, ◌++◌, length, take, slice_get, Some, refl}
use Rattle.std.proofs.lemmas.Bool.{and_parts}
use Rattle.hm_base.specs.Walks.{Event, doctype, start, text, comment, end, Element, is_same_element, path_after_event, path_after, ends_match, event_size, walk_size}

-- what an event becomes opens and closes what the event does, and is no longer
pub record NoLonger (e : Event) (es : List Event) : Type 0 where
  pub path : (p : List Element) → path_after p es ≡ path_after_event p e
  pub count : length es ≤ 1
  pub size : walk_size es ≤ event_size e

pub path_after-append : (path : List Element) (w v : List Event) → path_after path (w ++ v) ≡ path_after (path_after path w) v
path_after-append path [] v = refl
path_after-append path (e ∷ w) v = path_after-append (path_after_event path e) w v

-- each end of a walk ends what is open before it
pub ends_match-at : (path : List Element) (w : List Event) (i : ℕ) (e : Event) → ends_match path w ≡ true → slice_get w i ≡ Some e → ends_match (path_after path (take i w)) (e ∷ []) ≡ true
ends_match-at path [] i e h at = absurd (cc)
ends_match-at path (doctype legacy ∷ w) zero e h at = let same : doctype legacy ≡ e = cc in rw (← same) refl
ends_match-at path (start n foreign attributes ∷ w) zero e h at = let same : start n foreign attributes ≡ e = cc in rw (← same) refl
ends_match-at path (text s raw ∷ w) zero e h at = let same : text s raw ≡ e = cc in rw (← same) refl
ends_match-at path (comment s ∷ w) zero e h at = let same : comment s ≡ e = cc in rw (← same) refl
ends_match-at [] (end n foreign ∷ w) zero e h at = absurd (cc)
ends_match-at (p ∷ path) (end n foreign ∷ w) zero e h at =
    let same : end n foreign ≡ e = cc in
    let mine = (and_parts (is_same_element p n foreign) (ends_match path w) h).0 in
    rw (← same, mine) refl
ends_match-at path (doctype legacy ∷ w) (suc i) e h at = ends_match-at path w i e h at
ends_match-at path (start n foreign attributes ∷ w) (suc i) e h at = ends_match-at (record { name = n; foreign = foreign } ∷ path) w i e h at
ends_match-at path (text s raw ∷ w) (suc i) e h at = ends_match-at path w i e h at
ends_match-at path (comment s ∷ w) (suc i) e h at = ends_match-at path w i e h at
ends_match-at [] (end n foreign ∷ w) (suc i) e h at = absurd (cc)
ends_match-at (p ∷ path) (end n foreign ∷ w) (suc i) e h at = ends_match-at path w i e ((and_parts (is_same_element p n foreign) (ends_match path w) h).1) at
