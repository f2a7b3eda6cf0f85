-- A text appended to a walk: it joins the text that stands last, or stands last itself.
use Rattle.std.proofs.Common.{◌≡◌, ℕ, ◌+◌, ◌<◌, Bool, true, false, ◌&&◌, List, [], ◌∷◌, ◌++◌, length, ap, ◌∙◌, refl, arith, length-append}
use Rattle.hm_base.specs.Walks.{Event, doctype, start, text, comment, end, Element, event_size, is_same_element, path_after_event, path_after, ends_match, walk_size, with_text}
use Rattle.hm_tree.specs.Trees.{open_after_event, open_after}
use Rattle.hm_tree.specs.Rows.{is_text, ends_in_text, with_more, extended}
use Rattle.hm_tree.proofs.WalkLemmas.{walk_size-push}

with_text-cons : (x y : Event) (w : List Event) (c : ℕ) (s : List ℕ) (raw : Bool) → with_text (x ∷ y ∷ w) (c ∷ s) raw ≡ x ∷ with_text (y ∷ w) (c ∷ s) raw
with_text-cons (doctype legacy) y w c s raw = refl
with_text-cons (start n foreign attributes) y w c s raw = refl
with_text-cons (text t is_raw) y w c s raw = refl
with_text-cons (comment t) y w c s raw = refl
with_text-cons (end n foreign) y w c s raw = refl

with_text-one : (x : Event) (c : ℕ) (s : List ℕ) (raw : Bool) → is_text x ≡ true → with_text (x ∷ []) (c ∷ s) raw ≡ with_more x (c ∷ s) ∷ []
with_text-one (doctype legacy) c s raw h = absurd (cc)
with_text-one (start n foreign attributes) c s raw h = absurd (cc)
with_text-one (text t is_raw) c s raw h = refl
with_text-one (comment t) c s raw h = absurd (cc)
with_text-one (end n foreign) c s raw h = absurd (cc)

with_text-other : (x : Event) (c : ℕ) (s : List ℕ) (raw : Bool) → is_text x ≡ false → with_text (x ∷ []) (c ∷ s) raw ≡ x ∷ text (c ∷ s) raw ∷ []
with_text-other (doctype legacy) c s raw h = refl
with_text-other (start n foreign attributes) c s raw h = refl
with_text-other (text t is_raw) c s raw h = absurd (cc)
with_text-other (comment t) c s raw h = refl
with_text-other (end n foreign) c s raw h = refl

joins : (w : List Event) (c : ℕ) (s : List ℕ) (raw : Bool) → ends_in_text w ≡ true → with_text w (c ∷ s) raw ≡ extended w (c ∷ s)
joins [] c s raw h = absurd (cc)
joins (x ∷ []) c s raw h = with_text-one x c s raw h
joins (x ∷ y ∷ w) c s raw h = with_text-cons x y w c s raw ∙ ap (λ rest. x ∷ rest) (joins (y ∷ w) c s raw h)

follows : (w : List Event) (c : ℕ) (s : List ℕ) (raw : Bool) → ends_in_text w ≡ false → with_text w (c ∷ s) raw ≡ w ++ text (c ∷ s) raw ∷ []
follows [] c s raw h = refl
follows (x ∷ []) c s raw h = with_text-other x c s raw h
follows (x ∷ y ∷ w) c s raw h = with_text-cons x y w c s raw ∙ ap (λ rest. x ∷ rest) (follows (y ∷ w) c s raw h)

-- where a text stands last, a text that isn't empty joins it
pub with_text-extended : (w : List Event) (s : List ℕ) (raw : Bool) → 0 < length s → ends_in_text w ≡ true → with_text w s raw ≡ extended w s
with_text-extended w [] raw some h = absurd (omega arith)
with_text-extended w (c ∷ s) raw some h = joins w c s raw h

-- and otherwise it stands last itself
pub with_text-push : (w : List Event) (s : List ℕ) (raw : Bool) → 0 < length s → ends_in_text w ≡ false → with_text w s raw ≡ w ++ text s raw ∷ []
with_text-push w [] raw some h = absurd (omega arith)
with_text-push w (c ∷ s) raw some h = follows w c s raw h

with_more-size : (x : Event) (more : List ℕ) → is_text x ≡ true → event_size (with_more x more) ≡ event_size x + length more
with_more-size (doctype legacy) more h = absurd (cc)
with_more-size (start n foreign attributes) more h = absurd (cc)
with_more-size (text t is_raw) more h = length-append t more
with_more-size (comment t) more h = absurd (cc)
with_more-size (end n foreign) more h = absurd (cc)

pub walk_size-extended : (w : List Event) (more : List ℕ) → ends_in_text w ≡ true → walk_size (extended w more) ≡ walk_size w + length more
walk_size-extended [] more h = absurd (cc)
walk_size-extended (x ∷ []) more h = omega (arith, with_more-size x more h)
walk_size-extended (x ∷ y ∷ w) more h = omega (arith, walk_size-extended (y ∷ w) more h)

-- more bytes in a text change nothing of what is open
path_after_event-more : (path : List Element) (x : Event) (more : List ℕ) → path_after_event path (with_more x more) ≡ path_after_event path x
path_after_event-more path (doctype legacy) more = refl
path_after_event-more path (start n foreign attributes) more = refl
path_after_event-more path (text t is_raw) more = refl
path_after_event-more path (comment t) more = refl
path_after_event-more path (end n foreign) more = refl

pub path_after-extended : (path : List Element) (w : List Event) (more : List ℕ) → path_after path (extended w more) ≡ path_after path w
path_after-extended path [] more = refl
path_after-extended path (x ∷ []) more = path_after_event-more path x more
path_after-extended path (x ∷ y ∷ w) more = path_after-extended (path_after_event path x) (y ∷ w) more

open_after_event-more : (ks : List ℕ) (i : ℕ) (x : Event) (more : List ℕ) → open_after_event ks i (with_more x more) ≡ open_after_event ks i x
open_after_event-more ks i (doctype legacy) more = refl
open_after_event-more ks i (start n foreign attributes) more = refl
open_after_event-more ks i (text t is_raw) more = refl
open_after_event-more ks i (comment t) more = refl
open_after_event-more ks i (end n foreign) more = refl

pub open_after-extended : (ks : List ℕ) (i : ℕ) (w : List Event) (more : List ℕ) → open_after ks i (extended w more) ≡ open_after ks i w
open_after-extended ks i [] more = refl
open_after-extended ks i (x ∷ []) more = open_after_event-more ks i x more
open_after-extended ks i (x ∷ y ∷ w) more = open_after-extended (open_after_event ks i x) (i + 1) (y ∷ w) more

ends_match-cons : (path : List Element) (x y : Event) (w v : List Event) → ((p : List Element) → ends_match p w ≡ ends_match p v) → ends_match path (x ∷ w) ≡ ends_match path (x ∷ v)
ends_match-cons path (doctype legacy) y w v h = h path
ends_match-cons path (start n foreign attributes) y w v h = h (record { name = n; foreign = foreign } ∷ path)
ends_match-cons path (text t is_raw) y w v h = h path
ends_match-cons path (comment t) y w v h = h path
ends_match-cons [] (end n foreign) y w v h = refl
ends_match-cons (p ∷ path) (end n foreign) y w v h = ap (λ r. is_same_element p n foreign && r) (h path)

ends_match-more : (path : List Element) (x : Event) (more : List ℕ) → ends_match path (with_more x more ∷ []) ≡ ends_match path (x ∷ [])
ends_match-more path (doctype legacy) more = refl
ends_match-more path (start n foreign attributes) more = refl
ends_match-more path (text t is_raw) more = refl
ends_match-more path (comment t) more = refl
ends_match-more path (end n foreign) more = refl

pub ends_match-extended : (w : List Event) (more : List ℕ) (path : List Element) → ends_match path (extended w more) ≡ ends_match path w
ends_match-extended [] more path = refl
ends_match-extended (x ∷ []) more path = ends_match-more path x more
ends_match-extended (x ∷ y ∷ w) more path = ends_match-cons path x y (extended (y ∷ w) more) (y ∷ w) (λ p. ends_match-extended (y ∷ w) more p)

pub length-extended : (w : List Event) (more : List ℕ) → length (extended w more) ≡ length w
length-extended [] more = refl
length-extended (x ∷ []) more = refl
length-extended (x ∷ y ∷ w) more = omega (arith, length-extended (y ∷ w) more)

pub length-with_new_text : (w : List Event) (s : List ℕ) (raw : Bool) → 0 < length s → ends_in_text w ≡ false → length (with_text w s raw) ≡ length w + 1
length-with_new_text w s raw some h = omega (arith, ap length (with_text-push w s raw some h), length-append w (text s raw ∷ []))

-- for `grind`: what a text that is appended to a walk makes of it
pub ruleset texts = (with_text-extended, with_text-push, walk_size-extended, walk_size-push, length-with_new_text)
