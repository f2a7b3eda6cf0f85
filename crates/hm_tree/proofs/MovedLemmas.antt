-- Walks in which an attribute goes after the others of its tag.
use Rattle.std.proofs.Common.{◌≡◌, ℕ, zero, suc, ◌+◌, ◌<◌, ◌≤◌, Bool, true, false, not, ◌&&◌, List, [], ◌∷◌, ◌++◌, length, map, get_or, slice_get, Some, All, ap, ◌∙◌, refl, sym, subst, arith, length-append}
use Rattle.std.proofs.lemmas.Bool.{and_parts, and_from, not-true}
use Rattle.std.proofs.lemmas.List.{map-append}
use Rattle.std.proofs.lemmas.List.Elements.{All-cons, All-head, All-push, All-tail}
use Rattle.std.specs.List.{remove}
use Rattle.std.specs.Str.{is_utf8}
use Rattle.hm_base.specs.Walks.{Attribute, Event, doctype, start, text, comment, end, Element, is_same_element, path_after_event, path_after, ends_match, begins_text, has_name, has_distinct_names, attributes_size, event_size, walk_size}
use Rattle.hm_tree.specs.Attributes.{are_texts}
use Rattle.hm_tree.specs.Moved.{moved, with_moved, put_last}
use Rattle.hm_tree.specs.Rows.{parents_from}
use Rattle.hm_tree.specs.Trees.{IsMade, IsTold, is_apart, is_sound, are_sound, are_texts_apart, open_after_event}
use Rattle.hm_tree.proofs.ApartLemmas.{apart_alike, begins_alike}
use Rattle.hm_tree.proofs.AttributeLemmas.{has_distinct_names-push}
use Rattle.hm_tree.proofs.NameLemmas.{has_name-push}

-- ---- A list with one element after the others

pub map-moved : {A B : Type 0} (f : A → B) (i : ℕ) (xs : List A) → map f (moved i xs) ≡ moved i (map f xs)
map-moved f i [] = refl
map-moved f zero (x ∷ xs) = map-append f xs (x ∷ [])
map-moved f (suc i) (x ∷ xs) = ap (λ ys. f x ∷ ys) (map-moved f i xs)

pub length-moved : {A : Type 0} (i : ℕ) (xs : List A) → length (moved i xs) ≡ length xs
length-moved i [] = refl
length-moved zero (x ∷ xs) = omega (arith, length-append xs (x ∷ []))
length-moved (suc i) (x ∷ xs) = ap suc (length-moved i xs)

pub All-moved : {A : Type 0} (P : A → Type 0) (i : ℕ) (xs : List A) → All P xs → All P (moved i xs)
All-moved P i [] h = h
All-moved P zero (x ∷ xs) h = All-push P xs x (All-tail P x xs h) (All-head P x xs h)
All-moved P (suc i) (x ∷ xs) h = All-cons P x (moved i xs) (All-head P x xs h) (All-moved P i xs (All-tail P x xs h))

-- past the last element nothing moves
pub moved_past : {A : Type 0} (i : ℕ) (xs : List A) → length xs ≤ i → moved i xs ≡ xs
moved_past i [] h = refl
moved_past zero (x ∷ xs) h = absurd (omega (arith, h))
moved_past (suc i) (x ∷ xs) h = ap (λ ys. x ∷ ys) (moved_past i xs (omega (arith, h)))

-- the element is taken away and appended
pub moved_removed : {A : Type 0} (i : ℕ) (xs : List A) (d : A) → i < length xs → remove xs i ++ get_or xs i d ∷ [] ≡ moved i xs
moved_removed i [] d h = absurd (omega (arith, h))
moved_removed zero (x ∷ xs) d h = refl
moved_removed (suc i) (x ∷ xs) d h = ap (λ ys. x ∷ ys) (moved_removed i xs d (omega (arith, h)))

-- ---- The attributes of a tag

same_name : (n : List ℕ) (i : ℕ) (xs : List Attribute) → has_name n (moved i xs) ≡ has_name n xs
same_name n i [] = refl
same_name n zero (x ∷ xs) = has_name-push n xs x
same_name n (suc i) (x ∷ xs) = rw (same_name n i xs) refl

distinct : (i : ℕ) (xs : List Attribute) → has_distinct_names xs ≡ true → has_distinct_names (moved i xs) ≡ true
distinct i [] h = refl
distinct zero (x ∷ xs) h =
    let parts = and_parts (not (has_name x.name xs)) (has_distinct_names xs) h in
    has_distinct_names-push xs x parts.1 (not-true (has_name x.name xs) parts.0)
distinct (suc i) (x ∷ xs) h =
    let parts = and_parts (not (has_name x.name xs)) (has_distinct_names xs) h in
    and_from (not (has_name x.name (moved i xs))) (has_distinct_names (moved i xs)) (ap not (same_name x.name i xs) ∙ parts.0) (distinct i xs parts.1)

texts_push : (xs : List Attribute) (a : Attribute) → are_texts xs ≡ true → is_utf8 a.name && is_utf8 a.value ≡ true → are_texts (xs ++ a ∷ []) ≡ true
texts_push [] a h one = and_from (is_utf8 a.name && is_utf8 a.value) true one refl
texts_push (x ∷ xs) a h one =
    let parts = and_parts (is_utf8 x.name && is_utf8 x.value) (are_texts xs) h in
    and_from (is_utf8 x.name && is_utf8 x.value) (are_texts (xs ++ a ∷ [])) parts.0 (texts_push xs a parts.1 one)

texts : (i : ℕ) (xs : List Attribute) → are_texts xs ≡ true → are_texts (moved i xs) ≡ true
texts i [] h = refl
texts zero (x ∷ xs) h =
    let parts = and_parts (is_utf8 x.name && is_utf8 x.value) (are_texts xs) h in
    texts_push xs x parts.1 parts.0
texts (suc i) (x ∷ xs) h =
    let parts = and_parts (is_utf8 x.name && is_utf8 x.value) (are_texts xs) h in
    and_from (is_utf8 x.name && is_utf8 x.value) (are_texts (moved i xs)) parts.0 (texts i xs parts.1)

size_push : (xs : List Attribute) (a : Attribute) → attributes_size (xs ++ a ∷ []) ≡ attributes_size xs + (length a.name + length a.value)
size_push [] a = omega arith
size_push (x ∷ xs) a = omega (arith, size_push xs a)

size : (i : ℕ) (xs : List Attribute) → attributes_size (moved i xs) ≡ attributes_size xs
size i [] = refl
size zero (x ∷ xs) = omega (arith, size_push xs x)
size (suc i) (x ∷ xs) = omega (arith, size i xs)

-- ---- The event

sound_moved : (at : ℕ) (e : Event) → is_sound e ≡ true → is_sound (with_moved at e) ≡ true
sound_moved at (doctype legacy) h = refl
sound_moved at (start n foreign attributes) h =
    let both = and_parts (is_utf8 n && are_texts attributes) (has_distinct_names attributes) h in
    let one = and_parts (is_utf8 n) (are_texts attributes) both.0 in
    and_from (is_utf8 n && are_texts (moved at attributes)) (has_distinct_names (moved at attributes)) (and_from (is_utf8 n) (are_texts (moved at attributes)) one.0 (texts at attributes one.1)) (distinct at attributes both.1)
sound_moved at (text s raw) h = h
sound_moved at (comment s) h = h
sound_moved at (end n foreign) h = h

size_moved : (at : ℕ) (e : Event) → event_size (with_moved at e) ≡ event_size e
size_moved at (doctype legacy) = refl
size_moved at (start n foreign attributes) = ap (λ k. length n + k) (size at attributes)
size_moved at (text s raw) = refl
size_moved at (comment s) = refl
size_moved at (end n foreign) = refl

open_moved : (ks : List ℕ) (k at : ℕ) (e : Event) → open_after_event ks k (with_moved at e) ≡ open_after_event ks k e
open_moved ks k at (doctype legacy) = refl
open_moved ks k at (start n foreign attributes) = refl
open_moved ks k at (text s raw) = refl
open_moved ks k at (comment s) = refl
open_moved ks k at (end n foreign) = refl

after_moved : (path : List Element) (at : ℕ) (e : Event) → path_after_event path (with_moved at e) ≡ path_after_event path e
after_moved path at (doctype legacy) = refl
after_moved path at (start n foreign attributes) = refl
after_moved path at (text s raw) = refl
after_moved path at (comment s) = refl
after_moved path at (end n foreign) = refl

ends_moved : (path : List Element) (at : ℕ) (e : Event) (w : List Event) → ends_match path (with_moved at e ∷ w) ≡ ends_match path (e ∷ w)
ends_moved path at (doctype legacy) w = refl
ends_moved path at (start n foreign attributes) w = refl
ends_moved path at (text s raw) w = refl
ends_moved path at (comment s) w = refl
ends_moved path at (end n foreign) w = refl

apart_moved : (at : ℕ) (e : Event) (w : List Event) → is_apart (with_moved at e) w ≡ is_apart e w
apart_moved at (doctype legacy) w = refl
apart_moved at (start n foreign attributes) w = refl
apart_moved at (text s raw) w = refl
apart_moved at (comment s) w = refl
apart_moved at (end n foreign) w = refl

begins_moved : (at : ℕ) (e : Event) (w : List Event) → begins_text (with_moved at e ∷ w) ≡ begins_text (e ∷ w)
begins_moved at (doctype legacy) w = refl
begins_moved at (start n foreign attributes) w = refl
begins_moved at (text s raw) w = refl
begins_moved at (comment s) w = refl
begins_moved at (end n foreign) w = refl

-- ---- The walk

pub length-put_last : (w : List Event) (i at : ℕ) → length (put_last w i at) ≡ length w
length-put_last [] i at = refl
length-put_last (e ∷ w) zero at = refl
length-put_last (e ∷ w) (suc i) at = ap suc (length-put_last w i at)

pub walk_size-put_last : (w : List Event) (i at : ℕ) → walk_size (put_last w i at) ≡ walk_size w
walk_size-put_last [] i at = refl
walk_size-put_last (e ∷ w) zero at = ap (λ k. k + walk_size w) (size_moved at e)
walk_size-put_last (e ∷ w) (suc i) at = ap (λ k. event_size e + k) (walk_size-put_last w i at)

are_sound-put_last : (w : List Event) (i at : ℕ) → are_sound w ≡ true → are_sound (put_last w i at) ≡ true
are_sound-put_last [] i at h = refl
are_sound-put_last (e ∷ w) zero at h = let parts = and_parts (is_sound e) (are_sound w) h in and_from (is_sound (with_moved at e)) (are_sound w) (sound_moved at e parts.0) parts.1
are_sound-put_last (e ∷ w) (suc i) at h = let parts = and_parts (is_sound e) (are_sound w) h in and_from (is_sound e) (are_sound (put_last w i at)) parts.0 (are_sound-put_last w i at parts.1)

pub parents_from-put_last : (ks : List ℕ) (k : ℕ) (w : List Event) (i at : ℕ) → parents_from ks k (put_last w i at) ≡ parents_from ks k w
parents_from-put_last ks k [] i at = refl
parents_from-put_last ks k (e ∷ w) zero at = ap (λ os. slice_get ks 0 ∷ parents_from os (k + 1) w) (open_moved ks k at e)
parents_from-put_last ks k (e ∷ w) (suc i) at = ap (λ rest. slice_get ks 0 ∷ rest) (parents_from-put_last (open_after_event ks k e) (k + 1) w i at)

path_after-put_last : (path : List Element) (w : List Event) (i at : ℕ) → path_after path (put_last w i at) ≡ path_after path w
path_after-put_last path [] i at = refl
path_after-put_last path (e ∷ w) zero at = ap (λ p. path_after p w) (after_moved path at e)
path_after-put_last path (e ∷ w) (suc i) at = path_after-put_last (path_after_event path e) w i at

pub ends_more : (path : List Element) (e : Event) (v w : List Event) → ((p : List Element) → ends_match p v ≡ ends_match p w) → ends_match path (e ∷ v) ≡ ends_match path (e ∷ w)
ends_more path (doctype legacy) v w same = same path
ends_more path (start n foreign attributes) v w same = same (record { name = n; foreign = foreign } ∷ path)
ends_more path (text s raw) v w same = same path
ends_more path (comment s) v w same = same path
ends_more [] (end n foreign) v w same = refl
ends_more (p ∷ path) (end n foreign) v w same = ap (λ r. is_same_element p n foreign && r) (same path)

ends_match-put_last : (path : List Element) (w : List Event) (i at : ℕ) → ends_match path (put_last w i at) ≡ ends_match path w
ends_match-put_last path [] i at = refl
ends_match-put_last path (e ∷ w) zero at = ends_moved path at e w
ends_match-put_last path (e ∷ w) (suc i) at = ends_more path e (put_last w i at) w (λ p. ends_match-put_last p w i at)

begins_text-put_last : (w : List Event) (i at : ℕ) → begins_text (put_last w i at) ≡ begins_text w
begins_text-put_last [] i at = refl
begins_text-put_last (e ∷ w) zero at = begins_moved at e w
begins_text-put_last (e ∷ w) (suc i) at = begins_alike e (put_last w i at) w

are_texts_apart-put_last : (w : List Event) (i at : ℕ) → are_texts_apart (put_last w i at) ≡ are_texts_apart w
are_texts_apart-put_last [] i at = refl
are_texts_apart-put_last (e ∷ w) zero at = ap (λ b. b && are_texts_apart w) (apart_moved at e w)
are_texts_apart-put_last (e ∷ w) (suc i) at = rw (apart_alike e (put_last w i at) w (begins_text-put_last w i at), are_texts_apart-put_last w i at) refl

pub IsTold-put_last : (w : List Event) (i at : ℕ) → IsTold w → IsTold (put_last w i at)
IsTold-put_last w i at h = record {
  sound = are_sound-put_last w i at h.sound;
  events = omega (arith, h.events, length-put_last w i at);
  bytes = omega (arith, h.bytes, walk_size-put_last w i at);
}

-- an event in which nothing moves
pub put_last-same : (w : List Event) (i at : ℕ) (e : Event) → slice_get w i ≡ Some e → with_moved at e ≡ e → put_last w i at ≡ w
put_last-same [] i at e there same = refl
put_last-same (x ∷ w) zero at e there same = let is : x ≡ e = cc in ap (λ y. y ∷ w) (subst (λ y. with_moved at y ≡ y) (sym is) same)
put_last-same (x ∷ w) (suc i) at e there same = ap (λ v. x ∷ v) (put_last-same w i at e there same)

-- a tree stays one
pub IsMade-put_last : (w v : List Event) (i at : ℕ) → v ≡ put_last w i at → IsMade w → IsMade v
IsMade-put_last w v i at is h = subst IsMade (sym is) (record {
  matched = ends_match-put_last [] w i at ∙ h.matched;
  closed = path_after-put_last [] w i at ∙ h.closed;
  apart = are_texts_apart-put_last w i at ∙ h.apart;
})
