-- The events and elements around an event.
use Rattle.std.proofs.Common.{◌≡◌, ℕ, zero, suc, ◌<◌, List, [], ◌∷◌, ◌++◌, take, drop, slice_get, Bool, Some, sym, ap, ap₂, subst, ◌∙◌, refl, arith}
use Rattle.std.proofs.lemmas.List.{take-append-drop, take-take}
use Rattle.std.proofs.lemmas.Option.{slice_get_within}
use Rattle.hm_base.specs.Walks.{Event, start, Element, path_after}
use Rattle.hm_elements.specs.Paths.{outer}
use Rattle.hm_tree.specs.Trees.{open_after, parent_of}
use Rattle.hm_tree.proofs.ListLemmas.{slice_get-append}
use Rattle.hm_tree.proofs.OpenLemmas.{AreOpen, all_open}

-- the event that stands first after n others
pub first_there : (w : List Event) (n : ℕ) (e : Event) → slice_get w n ≡ Some e → e ∷ [] ≡ take 1 (drop n w)
first_there [] n e at = absurd (cc)
first_there (x ∷ w) zero e at =
    let is : x ≡ e = cc in
    ap (λ y. y ∷ []) (sym is)
first_there (x ∷ w) (suc n) e at = first_there w n e at

abbrev element : List ℕ → Bool → Element
element n foreign = record { name = n; foreign = foreign }

-- the same starts open the same elements
same_elements : (u v : List Event) (ks : List ℕ) (p q : List Element) → AreOpen (u ++ v) ks p → AreOpen u ks q → p ≡ q
same_elements u v [] [] [] a b = refl
same_elements u v [] [] (f ∷ q) a b = absurd b
same_elements u v [] (e ∷ p) q a b = absurd a
same_elements u v (k ∷ ks) [] q a b = absurd a
same_elements u v (k ∷ ks) (e ∷ p) [] a b = absurd b
same_elements u v (k ∷ ks) (e ∷ p) (f ∷ q) (s, before, more) (t, other, others) =
    let there : slice_get (u ++ v) k ≡ Some (start f.name f.foreign t.attributes) = slice_get-append u v k (slice_get_within u k _ t.at) ∙ t.at in
    let both : Some (start e.name e.foreign s.attributes) ≡ Some (start f.name f.foreign t.attributes) = sym s.at ∙ there in
    let name : e.name ≡ f.name = cc in
    let foreign : e.foreign ≡ f.foreign = cc in
    let same : e ≡ f = ap₂ element name foreign in
    let rest : p ≡ q = same_elements u v ks p q more others in
    cc

-- the elements around the innermost open one are those that are open directly before its start
around_start : (w : List Event) (k : ℕ) (ks : List ℕ) (path : List Element) → open_after [] 0 w ≡ ks → AreOpen w ks path → slice_get ks 0 ≡ Some k → outer path ≡ path_after [] (take k w)
around_start w k [] path is h at = absurd (cc)
around_start w k (j ∷ js) [] is h at = absurd h
around_start w k (j ∷ js) (e ∷ path) is (s, before, others) at =
    let same : j ≡ k = cc in
    let starts : open_after [] 0 (take k w) ≡ js = rw (← same) before in
    let inside : AreOpen (take k w) js (path_after [] (take k w)) = subst (λ ks. AreOpen (take k w) ks (path_after [] (take k w))) starts (all_open (take k w)) in
    let outside : AreOpen (take k w ++ drop k w) js path = subst (λ u. AreOpen u js path) (sym (take-append-drop k w)) others in
    same_elements (take k w) (drop k w) js path (path_after [] (take k w)) outside inside

pub outer_before_start : (w : List Event) (i k : ℕ) → k < i → Some k ≡ parent_of w i → outer (path_after [] (take i w)) ≡ path_after [] (take k w)
outer_before_start w i k within own =
    let u = take i w in
    let front : take k u ≡ take k w = take-take k i w (omega arith) in
    around_start u k (open_after [] 0 u) (path_after [] u) refl (all_open u) (sym own) ∙ ap (path_after []) front
