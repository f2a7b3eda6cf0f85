-- The elements around an event, by the starts of its parent and of its parent's parent.
use Rattle.std.proofs.Common.{◌≡◌, ℕ, ◌<◌, Bool, true, false, not, ◌&&◌, ◌||◌, List, [], ◌∷◌, ◌++◌, length, take, drop, slice_get, bytes_eq, Some, sym, ap, subst, ◌∙◌, refl, arith}
use Rattle.std.proofs.lemmas.List.{take-append-drop, take-take, take_all}
use Rattle.std.proofs.lemmas.Option.{slice_get_within}
use Rattle.hm_base.specs.Walks.{Event, start, Attribute, Element, path_after}
use Rattle.hm_elements.specs.Names.{is_among, noscript, head}
use Rattle.hm_elements.specs.Nesting.{is_name}
use Rattle.hm_elements.specs.Paths.{current_name}
use Rattle.hm_elements.specs.Tables.{space_parents}
use Rattle.hm_options.specs.Space.{hides_space}
use Rattle.hm_tree.specs.Trees.{IsStartAt, open_after, parent_of}
use Rattle.hm_tree.proofs.ListLemmas.{slice_get-append}
use Rattle.hm_tree.proofs.OpenLemmas.{AreOpen, all_open}

-- elements that the same starts open have the same name
same_names : (u v : List Event) (ks : List ℕ) (p q : List Element) → AreOpen (u ++ v) ks p → AreOpen u ks q → current_name p ≡ current_name q
same_names u v [] [] [] a b = refl
same_names u v [] [] (f ∷ q) a b = absurd b
same_names u v [] (e ∷ p) q a b = absurd a
same_names u v (k ∷ ks) [] q a b = absurd a
same_names u v (k ∷ ks) (e ∷ p) [] a b = absurd b
same_names u v (k ∷ ks) (e ∷ p) (f ∷ q) (s, before, more) (t, other, others) =
    let there : slice_get (u ++ v) k ≡ Some (start f.name f.foreign t.attributes) = slice_get-append u v k (slice_get_within u k _ t.at) ∙ t.at in
    let both : Some (start e.name e.foreign s.attributes) ≡ Some (start f.name f.foreign t.attributes) = sym s.at ∙ there in
    let name : e.name ≡ f.name = cc in
    ap Some name

-- what is around the innermost open element, as far as its name goes, is open before its start
around_name : (w : List Event) (k : ℕ) (ks : List ℕ) (path : List Element) → open_after [] 0 w ≡ ks → AreOpen w ks path → slice_get ks 0 ≡ Some k → (e : Element) (rest : List Element) → path ≡ e ∷ rest
    → current_name rest ≡ current_name (path_after [] (take k w))
around_name w k [] path is h at e rest along = absurd (cc)
around_name w k (j ∷ js) [] is h at e rest along = absurd h
around_name w k (j ∷ js) (f ∷ path) is (s, before, others) at e rest along =
    let same : j ≡ k = cc in
    let inner : path ≡ rest = cc in
    let starts : open_after [] 0 (take k w) ≡ js = rw (← same) before in
    let inside : AreOpen (take k w) js (path_after [] (take k w)) = subst (λ ks. AreOpen (take k w) ks (path_after [] (take k w))) starts (all_open (take k w)) in
    let outside : AreOpen (take k w ++ drop k w) js path = subst (λ u. AreOpen u js path) (sym (take-append-drop k w)) others in
    rw (← inner) (same_names (take k w) (drop k w) js path (path_after [] (take k w)) outside inside)

module _ (w : List Event) (i k : ℕ) (within : k < i) (n : List ℕ) (foreign : Bool) (attributes : List Attribute) (at : slice_get w k ≡ Some (start n foreign attributes)) where
  -- the open elements before event i, where event k is its parent
  pub parent_first : (path : List Element) → IsStartAt w k path → (rest : List Element) × (path ≡ record { name = n; foreign = foreign } ∷ rest)
  parent_first [] h = absurd h
  parent_first (e ∷ path) (others, is) =
      let both : Some (start e.name e.foreign others) ≡ Some (start n foreign attributes) = sym is ∙ at in
      let name : e.name ≡ n = cc in
      let kind : e.foreign ≡ foreign = cc in
      (path, rw (← name, ← kind) refl)

  hidden_by : (path : List Element) → (rest : List Element) × (path ≡ record { name = n; foreign = foreign } ∷ rest) → ((e : Element) (rest : List Element) → path ≡ e ∷ rest → current_name rest ≡ current_name (path_after [] (take k w)))
      → hides_space path ≡ not foreign && (is_among n space_parents || (bytes_eq n noscript && is_name head (current_name (path_after [] (take k w)))))
  unfolding hides_space
  hidden_by path (rest, is) around = rw (is, around (record { name = n; foreign = foreign }) rest is) refl

  pub hidden_there : parent_of w i ≡ Some k → IsStartAt w k (path_after [] (take i w)) → hides_space (path_after [] (take i w)) ≡ not foreign && (is_among n space_parents || (bytes_eq n noscript && is_name head (current_name (path_after [] (take k w)))))
  hidden_there parent is =
      let u = take i w in
      let front : take k u ≡ take k w = take-take k i w (omega arith) in
      hidden_by (path_after [] u) (parent_first (path_after [] u) is)
      (λ e rest along. rw (← front) (around_name u k (open_after [] 0 u) (path_after [] u) refl (all_open u) parent e rest along))

pub hidden_at_top : (path : List Element) → path ≡ [] → hides_space path ≡ false
unfolding hides_space
hidden_at_top path is = rw is refl

-- the same after all events of a walk
pub hidden_done : (w : List Event) (i k : ℕ) → i ≡ length w → k < i → (n : List ℕ) (foreign : Bool) (attributes : List Attribute) → slice_get w k ≡ Some (start n foreign attributes) → parent_of w i ≡ Some k → IsStartAt w k (path_after [] (take i w))
    → hides_space (path_after [] w) ≡ not foreign && (is_among n space_parents || (bytes_eq n noscript && is_name head (current_name (path_after [] (take k w)))))
hidden_done w i k all within n foreign attributes at parent is =
    let whole : take i w ≡ w = take_all i w (omega (arith, all)) in
    ap (λ v. hides_space (path_after [] v)) (sym whole) ∙ hidden_there w i k within n foreign attributes at parent is

pub nothing_open : (w : List Event) (i : ℕ) → i ≡ length w → path_after [] (take i w) ≡ [] → hides_space (path_after [] w) ≡ false
nothing_open w i all none =
    let whole : take i w ≡ w = take_all i w (omega (arith, all)) in
    hidden_at_top (path_after [] w) (ap (path_after []) (sym whole) ∙ none)

-- the test of the parent, step by step
module _ (hides foreign space no head_around : Bool) (is : hides ≡ not foreign && (space || (no && head_around))) where
  pub hidden_by_name : (r : Bool) → foreign ≡ false → r ≡ space → r ≡ true → r ≡ hides
  hidden_by_name r html by on = rw (is, html, ← by, on) refl

  pub hidden_in_head : (r named q : Bool) → foreign ≡ false → r ≡ space → r ≡ false → named ≡ no → named ≡ true → q ≡ head_around → q ≡ hides
  hidden_in_head r named q html by off noscript_is on head_is = rw (is, html, ← by, off, ← noscript_is, on, head_is) refl

  pub shown : (r named : Bool) → foreign ≡ false → r ≡ space → r ≡ false → named ≡ no → named ≡ false → named ≡ hides
  shown r named html by off noscript_is on = rw (is, html, ← by, off, ← noscript_is, on) refl

  pub shown_in_svg : foreign ≡ true → not foreign ≡ hides
  shown_in_svg svg = rw (is, svg) refl
