-- The open starts of a walk are the open elements: each index is that of the start, and the starts before it are those
-- open there.
use Rattle.std.proofs.Common.{◌≡◌, ℕ, ◌<◌, ◌≤◌, List, [], ◌∷◌, ◌++◌, length, take, drop, slice_get, Option, Some, None, IsSome, MatchOption, ap, subst, ◌∙◌, refl, arith, append_assoc, length-take}
use Rattle.std.proofs.lemmas.List.{take-append-le, take-append-drop, take_at, append-nil}
use Rattle.std.proofs.lemmas.Option.{slice_get_within}
use Rattle.hm_base.specs.Walks.{Event, doctype, start, text, comment, end, Attribute, Element, path_after_event, path_after}
use Rattle.hm_tree.specs.Trees.{IsStartAt, open_after_event, open_after, innermost, parent_of}
use Rattle.hm_tree.proofs.ListLemmas.{slice_get-append, slice_get_at}
use Rattle.hm_tree.proofs.WalkLemmas.{path_after-push, open_after-push}

-- event k starts the element
pub record IsStartOf (w : List Event) (k : ℕ) (e : Element) : Type 0 where
  pub attributes : List Attribute
  pub at : slice_get w k ≡ Some (start e.name e.foreign attributes)

abbrev pub AreOpen : List Event → List ℕ → List Element → Type 0
AreOpen w [] [] = Unit {0}
AreOpen w [] (e ∷ path) = ⊥
AreOpen w (k ∷ ks) [] = ⊥
AreOpen w (k ∷ ks) (e ∷ path) = IsStartOf w k e × (open_after [] 0 (take k w) ≡ ks) × AreOpen w ks path

start_stays : (w v : List Event) (k : ℕ) (e : Element) → IsStartOf w k e → IsStartOf (w ++ v) k e
start_stays w v k e s = record { attributes = s.attributes; at = slice_get-append w v k (slice_get_within w k _ s.at) ∙ s.at }

AreOpen-append : (w v : List Event) (ks : List ℕ) (path : List Element) → AreOpen w ks path → AreOpen (w ++ v) ks path
AreOpen-append w v [] [] h = tt
AreOpen-append w v [] (e ∷ path) h = absurd h
AreOpen-append w v (k ∷ ks) [] h = absurd h
AreOpen-append w v (k ∷ ks) (e ∷ path) (s, before, rest) =
    let within : k < length w = slice_get_within w k _ s.at in
    (start_stays w v k e s, ap (open_after [] 0) (take-append-le k w v (omega arith)) ∙ before, AreOpen-append w v ks path rest)

step : (w : List Event) (e : Event) (ks : List ℕ) (path : List Element) → open_after [] 0 w ≡ ks → AreOpen w ks path → AreOpen (w ++ e ∷ []) (open_after_event ks (length w) e) (path_after_event path e)
step w (doctype legacy) ks path is h = AreOpen-append w (doctype legacy ∷ []) ks path h
step w (text s raw) ks path is h = AreOpen-append w (text s raw ∷ []) ks path h
step w (comment s) ks path is h = AreOpen-append w (comment s ∷ []) ks path h
step w (start n foreign attributes) ks path is h = (
  record { attributes = attributes; at = slice_get_at w (start n foreign attributes) },
  ap (open_after [] 0) (take_at w (start n foreign attributes ∷ []) (length w) refl) ∙ is,
  AreOpen-append w (start n foreign attributes ∷ []) ks path h,
)
step w (end n foreign) [] [] is h = tt
step w (end n foreign) [] (p ∷ path) is h = absurd h
step w (end n foreign) (k ∷ ks) [] is h = absurd h
step w (end n foreign) (k ∷ ks) (p ∷ path) is (s, before, rest) = AreOpen-append w (end n foreign ∷ []) ks path rest

abbrev AllOpen : List Event → Type 0
AllOpen w = AreOpen w (open_after [] 0 w) (path_after [] w)

one_more : (w : List Event) (e : Event) → AllOpen w → AllOpen (w ++ e ∷ [])
one_more w e h =
    rw (open_after-push [] 0 w e (length w) (omega arith), path_after-push [] w e) (step w e (open_after [] 0 w) (path_after [] w) refl h)

from_front : (w v : List Event) → AllOpen w → AllOpen (w ++ v)
from_front w [] h = rw append-nil h
from_front w (e ∷ v) h = subst (λ u. AllOpen u) (append_assoc w (e ∷ []) v) (from_front (w ++ e ∷ []) v (one_more w e h))

pub all_open : (w : List Event) → AreOpen w (open_after [] 0 w) (path_after [] w)
all_open w = from_front [] w tt

-- the innermost open start k, its element, and what is open around it
pub record IsInnermost (w : List Event) (k : ℕ) : Type 0 where
  pub element : Element
  pub around : List Element
  pub starts : List ℕ
  pub path : path_after [] w ≡ element ∷ around
  pub open_starts : open_after [] 0 w ≡ k ∷ starts
  pub start : IsStartOf w k element
  pub parent : parent_of w k ≡ slice_get starts 0

innermost_by : (w : List Event) (k : ℕ) (ks : List ℕ) (path : List Element) → open_after [] 0 w ≡ ks → path_after [] w ≡ path → AreOpen w ks path → Some k ≡ slice_get ks 0 → IsInnermost w k
innermost_by w k [] path is along h e = absurd (cc)
innermost_by w k (j ∷ ks) [] is along h e = absurd h
innermost_by w k (j ∷ ks) (p ∷ path) is along (s, before, rest) e =
    let same : j ≡ k = cc in
    record {
      element = p;
      around = path;
      starts = ks;
      path = along;
      open_starts = rw (← same) is;
      start = subst (λ i. IsStartOf w i p) same s;
      parent = subst (λ i. parent_of w i ≡ slice_get ks 0) same (ap (λ o. slice_get o 0) before);
    }

pub innermost-IsInnermost : (w : List Event) (k : ℕ) → Some k ≡ innermost w → IsInnermost w k
innermost-IsInnermost w k e = innermost_by w k (open_after [] 0 w) (path_after [] w) refl refl (all_open w) e

start_by : (w : List Event) (ks : List ℕ) (path : List Element) → AreOpen w ks path → 0 < length path → IsSome (slice_get ks 0)
start_by w [] [] h some = absurd (omega arith)
start_by w [] (e ∷ path) h some = absurd h
start_by w (k ∷ ks) path h some = refl

-- where an element is open, its start is
pub IsSome-innermost : (w : List Event) → 0 < length (path_after [] w) → IsSome (innermost w)
IsSome-innermost w some = start_by w (open_after [] 0 w) (path_after [] w) (all_open w) some

pub innermost_within : (w : List Event) (k : ℕ) → Some k ≡ innermost w → k < length w
innermost_within w k e = slice_get_within w k _ (innermost-IsInnermost w k e).start.at

tells : (w : List Event) (ks : List ℕ) (path : List Element) → AreOpen w ks path → MatchOption (slice_get ks 0) (path ≡ []) (λ k. (k < length w) × IsStartAt w k path)
tells w [] [] h = refl
tells w [] (e ∷ path) h = absurd h
tells w (k ∷ ks) [] h = absurd h
tells w (k ∷ ks) (e ∷ path) (s, before, rest) = (slice_get_within w k _ s.at, (s.attributes, s.at))

in_front : (w v : List Event) (k : ℕ) (path : List Element) → k < length w → IsStartAt w k path → IsStartAt (w ++ v) k path
in_front w v k [] within h = h
in_front w v k (e ∷ path) within (attributes, at) = (attributes, slice_get-append w v k within ∙ at)

widen : (w v : List Event) (i : ℕ) (path : List Element) (o : Option ℕ) → length w ≤ i → MatchOption o (path ≡ []) (λ k. (k < length w) × IsStartAt w k path)
    → MatchOption o (path ≡ []) (λ k. (k < i) × IsStartAt (w ++ v) k path)
widen w v i path None le h = h
widen w v i path (Some k) le h = (omega (arith, h.0), in_front w v k path h.0 h.1)

-- the parent of an event is the start of the innermost element that is open before it
pub parent_of-IsStartAt : (w : List Event) (i : ℕ) → MatchOption (parent_of w i) (path_after [] (take i w) ≡ []) (λ k. (k < i) × IsStartAt w k (path_after [] (take i w)))
parent_of-IsStartAt w i =
    let v = take i w in
    let there = widen v (drop i w) i (path_after [] v) (parent_of w i) (omega (arith, length-take i w)) (tells v (open_after [] 0 v) (path_after [] v) (all_open v)) in
    subst (λ u. MatchOption (parent_of w i) (path_after [] v ≡ []) (λ k. (k < i) × IsStartAt u k (path_after [] v))) (take-append-drop i w) there
