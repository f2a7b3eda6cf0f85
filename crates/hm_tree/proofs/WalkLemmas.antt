-- Walks with one more event at their end.
use Rattle.std.proofs.Common.{◌≡◌, ℕ, zero, suc, ◌+◌, ◌<◌, Bool, true, false, ◌&&◌, List, [], ◌∷◌, ◌++◌, length, take, slice_get, Some, sym, ap, ◌∙◌, refl, arith}
use Rattle.std.proofs.lemmas.Bool.{and_parts, and_from}
use Rattle.std.proofs.lemmas.List.{take_more}
use Rattle.std.proofs.lemmas.Option.{slice_get_within, get_or_from_slice_get}
use Rattle.hm_base.specs.Walks.{Event, doctype, start, text, comment, end, Element, is_same_element, path_after_event, path_after, ends_match, event_size, walk_size}
use Rattle.hm_tree.specs.Trees.{is_sound, are_sound, open_after_event, open_after}
use Rattle.hm_tree.specs.Rows.{parents_from}

pub path_after-push : (path : List Element) (w : List Event) (e : Event) → path_after path (w ++ e ∷ []) ≡ path_after_event (path_after path w) e
path_after-push path [] e = refl
path_after-push path (x ∷ w) e = path_after-push (path_after_event path x) w e

-- the path after event i
pub path_after-take : (w : List Event) (i : ℕ) (e : Event) → slice_get w i ≡ Some e → path_after [] (take (i + 1) w) ≡ path_after_event (path_after [] (take i w)) e
path_after-take w i e at =
    rw (take_more w i e (slice_get_within w i e at), get_or_from_slice_get w i e e at) (path_after-push [] (take i w) e)

pub open_after-push : (ks : List ℕ) (i : ℕ) (w : List Event) (e : Event) (n : ℕ) → n ≡ i + length w → open_after ks i (w ++ e ∷ []) ≡ open_after_event (open_after ks i w) n e
open_after-push ks i [] e n at = ap (λ k. open_after_event ks k e) (let here : i ≡ n = omega arith in here)
open_after-push ks i (x ∷ w) e n at = open_after-push (open_after_event ks i x) (i + 1) w e n (omega arith)

pub walk_size-push : (w : List Event) (e : Event) → walk_size (w ++ e ∷ []) ≡ walk_size w + event_size e
walk_size-push [] e = omega arith
walk_size-push (x ∷ w) e = omega (arith, walk_size-push w e)

pub are_sound-push : (w : List Event) (e : Event) → are_sound w ≡ true → is_sound e ≡ true → are_sound (w ++ e ∷ []) ≡ true
are_sound-push [] e all one = rw one refl
are_sound-push (x ∷ w) e all one =
    let parts = and_parts (is_sound x) (are_sound w) all in
    and_from (is_sound x) (are_sound (w ++ e ∷ [])) parts.0 (are_sound-push w e parts.1 one)

and_assoc : (a b c : Bool) → a && (b && c) ≡ (a && b) && c
and_assoc true b c = refl
and_assoc false b c = refl

pub ends_match-push : (path : List Element) (w : List Event) (e : Event) → ends_match path (w ++ e ∷ []) ≡ ends_match path w && ends_match (path_after path w) (e ∷ [])
ends_match-push path [] e = refl
ends_match-push path (doctype legacy ∷ w) e = ends_match-push path w e
ends_match-push path (start n foreign attributes ∷ w) e = ends_match-push (record { name = n; foreign = foreign } ∷ path) w e
ends_match-push path (text s raw ∷ w) e = ends_match-push path w e
ends_match-push path (comment s ∷ w) e = ends_match-push path w e
ends_match-push [] (end n foreign ∷ w) e = refl
ends_match-push (p ∷ path) (end n foreign ∷ w) e =
    ap (λ r. is_same_element p n foreign && r) (ends_match-push path w e) ∙ and_assoc (is_same_element p n foreign) (ends_match path w) (ends_match (path_after path w) (e ∷ []))

pub parents_from-push : (ks : List ℕ) (i : ℕ) (w : List Event) (e : Event) → parents_from ks i (w ++ e ∷ []) ≡ parents_from ks i w ++ slice_get (open_after ks i w) 0 ∷ []
parents_from-push ks i [] e = refl
parents_from-push ks i (x ∷ w) e = ap (λ rest. slice_get ks 0 ∷ rest) (parents_from-push (open_after_event ks i x) (i + 1) w e)

pub parents_from-at : (ks : List ℕ) (i : ℕ) (w : List Event) (j : ℕ) → j < length w → slice_get (parents_from ks i w) j ≡ Some (slice_get (open_after ks i (take j w)) 0)
parents_from-at ks i [] j h = absurd (omega arith)
parents_from-at ks i (x ∷ w) zero h = refl
parents_from-at ks i (x ∷ w) (suc j) h = parents_from-at (open_after_event ks i x) (i + 1) w j (omega arith)

pub are_sound-parts : (w : List Event) (e : Event) → are_sound (w ++ e ∷ []) ≡ true → (are_sound w ≡ true) × (is_sound e ≡ true)
are_sound-parts [] e all = (refl, (and_parts (is_sound e) true all).0)
are_sound-parts (x ∷ w) e all =
    let parts = and_parts (is_sound x) (are_sound (w ++ e ∷ [])) all in
    let rest = are_sound-parts w e parts.1 in
    (and_from (is_sound x) (are_sound w) parts.0 rest.0, rest.1)

pub are_sound-at : (w : List Event) (i : ℕ) (e : Event) → are_sound w ≡ true → slice_get w i ≡ Some e → is_sound e ≡ true
are_sound-at [] i e all at = absurd (cc)
are_sound-at (x ∷ w) zero e all at =
    let is : x ≡ e = cc in
    ap is_sound (sym is) ∙ (and_parts (is_sound x) (are_sound w) all).0
are_sound-at (x ∷ w) (suc i) e all at = are_sound-at w i e (and_parts (is_sound x) (are_sound w) all).1 at
