-- The ends of the innermost elements, appended to a walk one by one.
use Rattle.std.proofs.Common.{◌≡◌, ℕ, ◌+◌, ◌<◌, ◌≤◌, List, [], ◌∷◌, ◌++◌, map, length, take, drop, sym, ap, ◌∙◌, refl, arith, append-nil, append_assoc, length-drop, add-one, drop-cons, get_or, false}
use Rattle.std.proofs.lemmas.List.{take_more, map-append}
use Rattle.hm_base.specs.Walks.{Event, Element, path_after_event, path_after}
use Rattle.hm_construction_laws.specs.Steps.{end_event}
use Rattle.hm_tree.specs.Trees.{end_of}
use Rattle.hm_tree.proofs.WalkLemmas.{path_after-push}

-- `count` elements have ended
pub record EndsSoFar (w : List Event) (path : List Element) (count : ℕ) (now : List Event) : Type 0 where
  pub walk : now ≡ w ++ map end_event (take count path)
  pub open_still : path_after [] now ≡ drop count path
  pub within : count ≤ length path

pub no_end : (w : List Event) → EndsSoFar w (path_after [] w) 0 w
no_end w = record { walk = sym (append-nil w); open_still = refl; within = omega arith }

no_element : Element
no_element = record { name = []; foreign = false }

pub one_end : (w now next : List Event) (path : List Element) (count : ℕ) → EndsSoFar w path count now → count < length path → next ≡ now ++ end_of (path_after [] now) → EndsSoFar w path (count + 1) next
one_end w now next path count so_far h is =
    let e : Element = get_or path count no_element in
    let open_now : path_after [] now ≡ e ∷ drop (count + 1) path = so_far.open_still ∙ (rw add-one (drop-cons path count no_element h)) in
    let ends : next ≡ now ++ end_event e ∷ [] = is ∙ ap (λ p. now ++ end_of p) open_now in
    record {
      walk =
          ends ∙ ap (λ v. v ++ end_event e ∷ []) so_far.walk ∙ append_assoc w (map end_event (take count path)) (end_event e ∷ [])
          ∙ ap (λ v. w ++ v) (sym (ap (map end_event) (take_more path count no_element h) ∙ map-append end_event (take count path) (e ∷ [])));
      open_still = ap (path_after []) ends ∙ path_after-push [] now (end_event e) ∙ ap (λ p. path_after_event p (end_event e)) open_now;
      within = omega arith;
    }

pub some_open : (w now : List Event) (path : List Element) (count : ℕ) → EndsSoFar w path count now → count < length path → 0 < length (path_after [] now)
some_open w now path count so_far h = omega (arith, ap length so_far.open_still, length-drop count path)
