-- The whitespace of a tree collapsed in place, event by event.
use Rattle.std.proofs.Common.{◌≡◌, ℕ, zero, suc, ◌+◌, ◌-◌, ◌^◌, ◌<◌, ◌≤◌, Bool, true, false, not, ◌&&◌, ◌==◌, List, [], ◌∷◌, ◌++◌, length, take, drop, slice_get, slice_range, Option, Some, None, IsUtf8, IsCharBoundary, if◌then◌else◌, sym, ap, ◌∙◌, refl, arith, append_assoc}
use Rattle.std.proofs.lemmas.Bool.{and_parts}
use Rattle.std.proofs.lemmas.List.{append-nil, drop_all, take_all}
use Rattle.std.proofs.lemmas.Str.{IsCharBoundary-from_drop, IsCharBoundary-from_rest, IsCharBoundary-from_take}
use Rattle.hm_base.specs.Bytes.{is_null}
use Rattle.hm_base.specs.Walks.{Event, doctype, start, text, comment, end, Element, begins_text, path_after_event, path_after, ends_match}
use Rattle.hm_options.specs.Fronts.{IsSpacedFront, spaced_text}
use Rattle.hm_options.specs.Marks.{kept_count}
use Rattle.hm_options.specs.Rewritten.{first_event, rewritten}
use Rattle.hm_options.specs.Space.{spaced, is_kept, text_of, without_leading, without_trailing, collapsed_event, collapsed}
use Rattle.hm_options.specs.Steps.{IsStep, first_text}
use Rattle.hm_options.specs.declared.spaces.SpacedFront.{SpacedFront}
use Rattle.hm_options.proofs.Collapsing.{collapsed_no_longer, kept_within}
use Rattle.hm_options.proofs.Rewriting.{path_after-append, ends_match-at}
use Rattle.hm_options.proofs.Trims.{text_shown}
use Rattle.hm_tree.specs.Edits.{Edited, last_event, without_first, kept}
use Rattle.hm_tree.specs.Trees.{IsWalk, is_apart, are_texts_apart}
use Rattle.hm_tree.proofs.EditLemmas.{last_event-push, no_text_next}
use Rattle.hm_tree.proofs.RoomLemmas.{HasRoom-take}

-- ---- What an event becomes

-- what is no text stays, whatever stands before it
other_stays : (conservative : Bool) (path : List Element) (before next : Option Event) (e : Event) → begins_text (e ∷ []) ≡ false → collapsed_event conservative path before e next ≡ e ∷ []
other_stays conservative path before next (doctype legacy) h = refl
other_stays conservative path before next (start n foreign attributes) h = refl
other_stays conservative path before next (text s raw) h = absurd (cc)
other_stays conservative path before next (comment s) h = refl
other_stays conservative path before next (end n foreign) h = refl

begins_so : (e : Event) (l : List Event) → begins_text (e ∷ l) ≡ begins_text (e ∷ [])
begins_so (doctype legacy) l = refl
begins_so (start n foreign attributes) l = refl
begins_so (text s raw) l = refl
begins_so (comment s) l = refl
begins_so (end n foreign) l = refl

none_after : (v : List Event) (e : Event) (l : List Event) → begins_text (e ∷ []) ≡ true → IsWalk (v ++ e ∷ l) → begins_text l ≡ false
none_after v (doctype legacy) l h walk = absurd (cc)
none_after v (start n foreign attributes) l h walk = absurd (cc)
none_after v (text s raw) l h walk = no_text_next v s raw l walk.apart
none_after v (comment s) l h walk = absurd (cc)
none_after v (end n foreign) l h walk = absurd (cc)

-- what holds between two events: before a text stands the last event that is done
pub record IsCollapsing (conservative : Bool) (w : List Event) (e : Edited) (kept : ℕ) : Type 0 where
  pub before : Option Event
  pub whole : e.done ++ rewritten (collapsed_event conservative) (path_after [] e.done) before e.left ≡ collapsed conservative w
  pub last : begins_text e.left ≡ true → before ≡ last_event e.done
  pub known : kept ≡ kept_count (path_after [] e.done)

pub collapsing_begins : (conservative : Bool) (w : List Event) (e : Edited) → e ≡ record { done = []; left = w } → IsCollapsing conservative w e 0
unfolding collapsed
collapsing_begins conservative w e is = rw is (record { before = None; whole = refl; last = λ h. refl; known = refl })

module _ (conservative : Bool) (w : List Event) (old new : Edited) (kept after : ℕ) (h : IsCollapsing conservative w old kept) (step : IsStep conservative old new) (e : Event) (l : List Event) (is : old.left ≡ e ∷ l) where
  abbrev path : List Element
  path = path_after [] old.done

  becomes : new.done ≡ old.done ++ collapsed_event conservative path (last_event old.done) e (first_event l)
  becomes = (step e l is).1

  -- what came before an event that is no text says nothing of it
  same : (b : Bool) → begins_text (e ∷ []) ≡ b → collapsed_event conservative path h.before e (first_event l) ≡ collapsed_event conservative path (last_event old.done) e (first_event l)
  same true t = ap (λ x. collapsed_event conservative path x e (first_event l)) (h.last (ap begins_text is ∙ begins_so e l ∙ t))
  same false t = other_stays conservative path h.before (first_event l) e t ∙ sym (other_stays conservative path (last_event old.done) (first_event l) e t)

  following : path_after [] new.done ≡ path_after_event path e
  following =
      let es = collapsed_event conservative path (last_event old.done) e (first_event l) in
      ap (path_after []) becomes ∙ path_after-append [] old.done es ∙ (collapsed_no_longer conservative path (last_event old.done) (first_event l) e).path path

  last_then : (b : Bool) → begins_text (e ∷ []) ≡ b → IsWalk (old.done ++ old.left) → begins_text new.left ≡ true → Some e ≡ last_event new.done
  last_then true t walk begins =
      let none : begins_text l ≡ false = none_after old.done e l t (rw is at walk) in
      let some : begins_text l ≡ true = rw ((step e l is).0) at begins in
      absurd (cc)
  last_then false t walk begins = sym (ap last_event (becomes ∙ ap (λ es. old.done ++ es) (other_stays conservative path (last_event old.done) (first_event l) e t)) ∙ last_event-push old.done e)

  pub IsCollapsing-more : IsWalk (old.done ++ old.left) → after ≡ kept_count (path_after_event path e) → IsCollapsing conservative w new after
  IsCollapsing-more walk counts =
      let es = collapsed_event conservative path (last_event old.done) e (first_event l) in
      let rest = rewritten (collapsed_event conservative) (path_after_event path e) (Some e) l in
      let one : rewritten (collapsed_event conservative) path h.before old.left ≡ es ++ rest =
      ap (rewritten (collapsed_event conservative) path h.before) is ∙ ap (λ x. x ++ rest) (same (begins_text (e ∷ [])) refl) in
      record {
        before = Some e;
        whole = rw (following, (step e l is).0, becomes) (append_assoc old.done es rest ∙ ap (λ x. old.done ++ x) (sym one) ∙ h.whole);
        last = last_then (begins_text (e ∷ [])) refl walk;
        known = counts ∙ ap kept_count (sym following);
      }

pub collapsing_ends : (conservative : Bool) (w : List Event) (e : Edited) (kept : ℕ) → e.left ≡ [] → IsCollapsing conservative w e kept → e.done ≡ collapsed conservative w
collapsing_ends conservative w e kept none h =
    sym (append-nil e.done) ∙ (rw none at h.whole)

-- the innermost open element is what an end ends
pub end_matches : (v : List Event) (e : Event) (l : List Event) → IsWalk (v ++ e ∷ l) → ends_match (path_after [] v) (e ∷ []) ≡ true
end_matches v e l walk = rw (take_seam v (e ∷ l)) at (ends_match-at [] (v ++ e ∷ l) (length v) e walk.matched (at_seam v e l))
  where
    take_seam : (v w : List Event) → take (length v) (v ++ w) ≡ v
    take_seam [] w = refl
    take_seam (x ∷ v) w = ap (λ u. x ∷ u) (take_seam v w)

    at_seam : (v : List Event) (e : Event) (l : List Event) → slice_get (v ++ e ∷ l) (length v) ≡ Some e
    at_seam [] e l = refl
    at_seam (x ∷ v) e l = at_seam v e l

-- few elements are open
pub few_kept : (v l : List Event) (kept : ℕ) → IsWalk (v ++ l) → kept ≡ kept_count (path_after [] v) → kept + 1 < 2 ^ 32
few_kept v l kept walk is = omega (arith, is, kept_within (path_after [] v), (rw (take_seam v l) at (HasRoom-take (v ++ l) (length v) walk)).events)
  where
    take_seam : (v w : List Event) → take (length v) (v ++ w) ≡ v
    take_seam [] w = refl
    take_seam (x ∷ v) w = ap (λ u. x ∷ u) (take_seam v w)

-- ---- What is first of what is left

pub left_some : (l : List Event) (e : Event) → slice_get l 0 ≡ Some e → l ≡ e ∷ without_first l
left_some [] e h = absurd (cc)
left_some (x ∷ l) e h = let is : x ≡ e = cc in ap (λ y. y ∷ l) is

pub next_first : (l : List Event) → first_event l ≡ slice_get l 0
next_first [] = refl
next_first (e ∷ l) = refl

pub after_first : (e : Event) (l left : List Event) → left ≡ e ∷ l → slice_get left 1 ≡ first_event l
after_first e l left is = ap (λ x. slice_get x 1) is ∙ sym (next_first l)

-- ---- What is seen of a text

pub leading_drop : (edge : Bool) (s : List ℕ) → drop (length s - length (without_leading edge s)) s ≡ without_leading edge s
leading_drop edge [] = refl
leading_drop edge (c ∷ s) = by_test (edge && c == 32)
  where
    by_test : (b : Bool) → drop (length (c ∷ s) - length (if b then s else c ∷ s)) (c ∷ s) ≡ (if b then s else c ∷ s)
    by_test true = let one : suc (length s) - length s ≡ 1 = omega arith in ap (λ n. drop n (c ∷ s)) one
    by_test false = let none : suc (length s) - suc (length s) ≡ 0 = omega arith in ap (λ n. drop n (c ∷ s)) none

pub trailing_take : (edge : Bool) (s : List ℕ) → take (length (without_trailing edge s)) s ≡ without_trailing edge s
trailing_take edge [] = refl
trailing_take edge (c ∷ []) = by_test (edge && c == 32)
  where
    by_test : (b : Bool) → take (length (if b then [] else c ∷ [])) (c ∷ []) ≡ (if b then [] else c ∷ [])
    by_test true = refl
    by_test false = refl
trailing_take edge (c ∷ d ∷ s) = ap (λ x. c ∷ x) (trailing_take edge (d ∷ s))

-- a text without a space at its begin and at its end, as a part of it
module _ (first second : Bool) (s t u : List ℕ) (front : t ≡ without_leading first s) (both : u ≡ without_trailing second t) (from to : ℕ) (begins : from ≡ length s - length t) (ends : to ≡ from + length u) where
  front_is : drop from s ≡ t
  front_is = rw (begins, front) (leading_drop first s)

  pub seen_part : slice_range s from to ≡ u
  seen_part =
      let count : to - from ≡ length u = omega (arith, ends) in
      rw (count, front_is, both) (trailing_take second t)

  module _ (s_utf8 : IsUtf8 s) (t_utf8 : IsUtf8 t) (u_utf8 : IsUtf8 u) (t_short : length t ≤ length s) (u_short : length u ≤ length t) where
    pub seen_from : IsCharBoundary s from
    seen_from = IsCharBoundary-from_drop s from (omega (arith, begins)) (rw front_is t_utf8)

    pub seen_to : IsCharBoundary s to
    seen_to =
        let inner : IsCharBoundary t (length u) = IsCharBoundary-from_take t (length u) t_utf8 u_short (rw (ap (λ n. take n t) (ap length both), trailing_take second t, ← both) u_utf8) in
        rw ends (IsCharBoundary-from_rest s from (length u) (omega (arith, begins)) (rw front_is inner))

-- ---- A text that comes first

pub none_of : (s : List ℕ) (from to : ℕ) → from ≡ to → text_of (slice_range s from to) ≡ []
none_of s from to same =
    let none : to - from ≡ 0 = omega (arith, same) in
    rw none refl

pub steady_same : (s : List ℕ) (front : SpacedFront) → IsSpacedFront s front → front.to ≡ length s → spaced false s ≡ s
steady_same s front h all =
    h.same ∙ rw (all, drop_all (length s) s (omega arith), take_all (length s) s (omega arith), append-nil) refl

module _ (conservative : Bool) (old new : Edited) (s : List ℕ) (raw : Bool) (at : slice_get old.left 0 ≡ Some (text s raw)) (plain : raw ≡ false) (shown : is_kept (path_after [] old.done) ≡ false) where
  left_is : old.left ≡ text s false ∷ without_first old.left
  left_is = rw plain at (left_some old.left (text s raw) at)

  pub first_is : first_text old.left ≡ s
  first_is = ap first_text left_is

  -- the text became what is shown of it
  pub text_step : (t : List ℕ) → t ≡ spaced false s → new.done ≡ old.done ++ spaced_text conservative (path_after [] old.done) (last_event old.done) (slice_get old.left 1) t → new.left ≡ without_first old.left → IsStep conservative old new
  text_step t is put left = λ e l first.
      let both : text s false ∷ without_first old.left ≡ e ∷ l = sym left_is ∙ first in
      let one : text s false ≡ e = cc in
      let rest : without_first old.left ≡ l = cc in
      let next : slice_get old.left 1 ≡ first_event l = after_first e l old.left first in
      (left ∙ rest, put ∙ rw (← one, is, next) (ap (λ es. old.done ++ es) (sym (text_shown (path_after [] old.done) (last_event old.done) (first_event l) s conservative shown))))

-- an event that stays
pub kept_step : (conservative : Bool) (old new : Edited) (x : Event) → slice_get old.left 0 ≡ Some x → new ≡ kept old.done old.left
    → ((before next : Option Event) → collapsed_event conservative (path_after [] old.done) before x next ≡ x ∷ []) → IsStep conservative old new
kept_step conservative old new x at is stays = λ e l first.
    let same : Some x ≡ Some e = sym at ∙ ap (λ w. slice_get w 0) first in
    let one : x ≡ e = cc in
    let both : new ≡ record { done = old.done ++ e ∷ []; left = l } = is ∙ ap (kept old.done) first in
    (ap (λ y. y.left) both, ap (λ y. y.done) both ∙ ap (λ es. old.done ++ es) (sym (rw one at (stays (last_event old.done) (first_event l)))))

-- ---- What is known of the events around

pub last_at : (v : List Event) (n : ℕ) (e : Event) → n + 1 ≡ length v → slice_get v n ≡ Some e → last_event v ≡ Some e
last_at [] n e count at = absurd (cc)
last_at (x ∷ []) zero e count at = at
last_at (x ∷ []) (suc n) e count at = absurd (omega (arith, count))
last_at (x ∷ y ∷ v) zero e count at = absurd (omega (arith, count))
last_at (x ∷ y ∷ v) (suc n) e count at = last_at (y ∷ v) n e (omega (arith, count)) at

pub text_some : (v l : List Event) (s : List ℕ) (raw : Bool) → slice_get l 0 ≡ Some (text s raw) → IsWalk (v ++ l) → is_null s ≡ false
text_some v l s raw at walk = there v (without_first l) (rw (left_some l (text s raw) at) at walk.apart)
  where
    there : (v rest : List Event) → are_texts_apart (v ++ text s raw ∷ rest) ≡ true → is_null s ≡ false
    there [] rest h = off (is_null s) ((and_parts (not (is_null s)) (not (begins_text rest)) ((and_parts (is_apart (text s raw) rest) (are_texts_apart rest) h).0)).0)
      where
        off : (b : Bool) → not b ≡ true → b ≡ false
        off true e = absurd (cc)
        off false e = refl
    there (x ∷ v) rest h = there v rest ((and_parts (is_apart x (v ++ text s raw ∷ rest)) (are_texts_apart (v ++ text s raw ∷ rest)) h).1)

pub no_more : (l : List Event) → length l ≤ 0 → l ≡ []
no_more [] h = refl
no_more (e ∷ l) h = absurd (omega (arith, h))
