-- How long the names and texts of a tree are.
use Rattle.std.proofs.Common.{◌≡◌, ℕ, zero, suc, ◌+◌, ◌≤◌, Bool, true, List, [], ◌∷◌, length, slice_get, bytes_eq, Some, ap, arith}
use Rattle.std.proofs.lemmas.Bool.{and_parts}
use Rattle.std.proofs.lemmas.Slice.Eq.{bytes_eq-Decides}
use Rattle.hm_base.specs.Walks.{Attribute, attributes_size, Event, doctype, start, text, comment, end, Element, is_same_element, same_flag, path_after_event, ends_match, event_size, walk_size}

pub attribute_within : (attributes : List Attribute) (i : ℕ) (a : Attribute) → slice_get attributes i ≡ Some a → length a.name ≤ attributes_size attributes
attribute_within [] i a at = absurd (cc)
attribute_within (b ∷ attributes) zero a at =
    let is : b ≡ a = cc in
    omega (arith, ap (λ x. length x.name) is)
attribute_within (b ∷ attributes) (suc i) a at = omega (arith, attribute_within attributes i a at)

pub event_within : (w : List Event) (i : ℕ) (e : Event) → slice_get w i ≡ Some e → event_size e ≤ walk_size w
event_within [] i e at = absurd (cc)
event_within (x ∷ w) zero e at =
    let is : x ≡ e = cc in
    omega (arith, ap event_size is)
event_within (x ∷ w) (suc i) e at = omega (arith, event_within w i e at)

-- the bytes of the names of open elements
path_size : List Element → ℕ
path_size [] = 0
path_size (e ∷ path) = length e.name + path_size path

path_grows : (path : List Element) (e : Event) → path_size (path_after_event path e) ≤ path_size path + event_size e
unfolding path_size
path_grows path (doctype legacy) = omega arith
path_grows path (start n foreign attributes) = omega arith
path_grows path (text s raw) = omega arith
path_grows path (comment s) = omega arith
path_grows [] (end n foreign) = omega arith
path_grows (p ∷ path) (end n foreign) = omega arith

others_match : (path : List Element) (e : Event) (w : List Event) → ends_match path (e ∷ w) ≡ true → ends_match (path_after_event path e) w ≡ true
others_match path (doctype legacy) w h = h
others_match path (start n foreign attributes) w h = h
others_match path (text s raw) w h = h
others_match path (comment s) w h = h
others_match [] (end n foreign) w h = absurd (cc)
others_match (p ∷ path) (end n foreign) w h = (and_parts (is_same_element p n foreign) (ends_match path w) h).1

ends_own : (path : List Element) (n : List ℕ) (foreign : Bool) (w : List Event) → ends_match path (end n foreign ∷ w) ≡ true → length n ≤ path_size path
unfolding path_size
ends_own [] n foreign w h = absurd (cc)
ends_own (p ∷ path) n foreign w h =
    let own = (and_parts (is_same_element p n foreign) (ends_match path w) h).0 in
    let same : p.name ≡ n = (bytes_eq-Decides p.name n).0 (and_parts (bytes_eq p.name n) (same_flag p.foreign foreign) own).0 in
    omega (arith, ap length same)

ends_within : (path : List Element) (w : List Event) (i : ℕ) (n : List ℕ) (foreign : Bool) → ends_match path w ≡ true → slice_get w i ≡ Some (end n foreign) → length n ≤ path_size path + walk_size w
ends_within path [] i n foreign h at = absurd (cc)
ends_within path (x ∷ w) zero n foreign h at =
    let is : x ≡ end n foreign = cc in
    omega (arith, ends_own path n foreign w (rw is at h))
ends_within path (x ∷ w) (suc i) n foreign h at = omega (arith, path_grows path x, ends_within (path_after_event path x) w i n foreign (others_match path x w h) at)

-- the name of an end is that of its start
pub end_within : (w : List Event) (i : ℕ) (n : List ℕ) (foreign : Bool) → ends_match [] w ≡ true → slice_get w i ≡ Some (end n foreign) → length n ≤ walk_size w
unfolding path_size
end_within w i n foreign h at = omega (arith, ends_within [] w i n foreign h at)
