-- The tree of a fragment stays one whatever options ask for.
use Rattle.std.proofs.Common.{◌≡◌, ℕ, Bool, true, false, List, [], ◌∷◌, ◌++◌, Option, Some, None, refl, sym, ap, ◌∙◌, append_assoc}
use Rattle.hm_base.specs.Walks.{Attribute, Event, doctype, start, end, Element, path_after_event, pushes}
use Rattle.hm_elements.specs.Names.{html, head, body}
use Rattle.hm_options.specs.Rewrites.{by, plain_doctype, no_comment, with_attributes, no_boolean_values, no_empty, no_redundant, uncommented, where_set, rewrite}
use Rattle.hm_options.specs.Rewritten.{rewritten, first_event}
use Rattle.hm_options.specs.Space.{collapsed, collapsed_event}
use Rattle.hm_construction_laws.proofs.Standing.{pushes_append}
use Rattle.hm_fragment.specs.Frames.{frame_start, frame_end, IsFramed}
use Rattle.hm_fragment.specs.Laws.{RewrittenStaysFramed}
use Rattle.hm_fragment.proofs.Framed.{EndsFramed, pushes_end}

-- a rewrite that leaves the events of the frame as they are
record LeavesFrame (f : List Element → Option Event → Event → Option Event → List Event) : Type 0 where
  doctypes : (path : List Element) (before next : Option Event) → f path before (doctype false) next ≡ doctype false ∷ []
  starts : (path : List Element) (before next : Option Event) (n : List ℕ) → f path before (start n false []) next ≡ start n false [] ∷ []
  ends : (path : List Element) (before next : Option Event) (n : List ℕ) → f path before (end n false) next ≡ end n false ∷ []

module _ (f : List Element → Option Event → Event → Option Event → List Event) (k : LeavesFrame f) where
  inside_framed : (inside : List Event) (path : List Element) (before : Option Event) → EndsFramed (rewritten f path before (inside ++ frame_end))
  inside_framed [] path before = record { inside = []; is = rw (k.ends path before (Some (end html false)) body, k.ends (path_after_event path (end body false)) (Some (end body false)) None html) refl }
  inside_framed (e ∷ inside) path before =
      let h = inside_framed inside (path_after_event path e) (Some e) in
      let this : List Event = f path before e (first_event (inside ++ frame_end)) in
      record { inside = this ++ h.inside; is = ap (λ x. this ++ x) h.is ∙ sym (append_assoc this h.inside frame_end) }

  by_framed : (w : List Event) → IsFramed w → IsFramed (by f w)
  by_framed w framed =
      let under : List Element = path_after_event [] (start html false []) in
      let next : Option Event = first_event (framed.inside ++ frame_end) in
      let h = inside_framed framed.inside (path_after_event under (start body false [])) (Some (start body false [])) in
      record {
        inside = h.inside;
        is = ap (by f) framed.is
            ∙ rw (
              k.doctypes [] None (Some (start html false [])),
              k.starts [] (Some (doctype false)) (Some (start head false [])) html,
              k.starts under (Some (start html false [])) (Some (end head false)) head,
              k.ends (path_after_event under (start head false [])) (Some (start head false [])) (Some (start body false [])) head,
              k.starts under (Some (end head false)) next body,
            ) (ap (λ x. frame_start ++ x) h.is);
      }

where_framed : (flag : Bool) (f : List Event → List Event) (w : List Event) → ((v : List Event) → IsFramed v → IsFramed (f v)) → IsFramed w → IsFramed (where_set flag f w)
where_framed true f w keeps h = keeps w h
where_framed false f w keeps h = h

leaves_doctype : LeavesFrame plain_doctype
leaves_doctype = record { doctypes = λ path before next. refl; starts = λ path before next n. refl; ends = λ path before next n. refl }

leaves_comment : LeavesFrame no_comment
leaves_comment = record { doctypes = λ path before next. refl; starts = λ path before next n. refl; ends = λ path before next n. refl }

leaves_attributes : (g : List ℕ → List Attribute → List Attribute) → ((n : List ℕ) → g n [] ≡ []) → LeavesFrame (with_attributes g)
leaves_attributes g none = record { doctypes = λ path before next. refl; starts = λ path before next n. ap (λ x. start n false x ∷ []) (none n); ends = λ path before next n. refl }

leaves_space : (conservative : Bool) → LeavesFrame (collapsed_event conservative)
leaves_space conservative = record { doctypes = λ path before next. refl; starts = λ path before next n. refl; ends = λ path before next n. refl }

uncommented_framed : (w : List Event) → IsFramed w → IsFramed (uncommented w)
uncommented_framed w framed =
    let k : IsFramed (by no_comment w) = by_framed no_comment leaves_comment w framed in
    record { inside = pushes k.inside []; is = ap (λ x. pushes x []) k.is ∙ ap (λ x. frame_start ++ x) (pushes_append k.inside frame_end [] ∙ pushes_end k.inside []) }

collapsed_framed : (conservative : Bool) (w : List Event) → IsFramed w → IsFramed (collapsed conservative w)
unfolding collapsed
collapsed_framed conservative w h = by_framed (collapsed_event conservative) (leaves_space conservative) w h

pub rewritten_stays_framed : RewrittenStaysFramed
unfolding rewrite
rewritten_stays_framed o w h =
    let a = where_set o.doctype (by plain_doctype) w in
    let b = where_set o.comments uncommented a in
    let c = where_set o.booleans (by (with_attributes no_boolean_values)) b in
    let d = where_set o.empty (by (with_attributes no_empty)) c in
    let e = where_set o.redundant (by (with_attributes no_redundant)) d in
    let first : IsFramed a = where_framed o.doctype (by plain_doctype) w (by_framed plain_doctype leaves_doctype) h in
    let second : IsFramed b = where_framed o.comments uncommented a uncommented_framed first in
    let third : IsFramed c = where_framed o.booleans (by (with_attributes no_boolean_values)) b (by_framed (with_attributes no_boolean_values) (leaves_attributes no_boolean_values (λ n. refl))) second in
    let fourth : IsFramed d = where_framed o.empty (by (with_attributes no_empty)) c (by_framed (with_attributes no_empty) (leaves_attributes no_empty (λ n. refl))) third in
    let fifth : IsFramed e = where_framed o.redundant (by (with_attributes no_redundant)) d (by_framed (with_attributes no_redundant) (leaves_attributes no_redundant (λ n. refl))) fourth in
    where_framed o.space (collapsed o.conservative) e (collapsed_framed o.conservative) fifth
