-- Doctypes and comments.
use Rattle.std.proofs.Common.{◌≡◌, ℕ, Bool, true, false, List, [], ◌∷◌, ◌++◌, sym, ap, subst, ◌∙◌, refl}
use Rattle.hm_base.specs.Walks.{Event, doctype, comment, path_after}
use Rattle.hm_base.specs.declared.rules.Rule.TheVariants.{SecondDoctype}
use Rattle.std.specs.declared.vec.Vec.{Vec}
use Rattle.std.specs.declared.alloc.Global.{Global}
use Rattle.hm_construction_laws.specs.Steps as steps
use Rattle.hm_construction_laws.specs.Steps.{Construction, Stepped, went, stops, step, no_drop, step_comment, step_doctype}
use Rattle.hm_tree.specs.Tokens as tokens
use Rattle.hm_insertion.specs.Inside.{insertion_mode_of, open_path, state_of, has_no_text, IsKept, IsDone, IsFresh}
use Rattle.hm_insertion.specs.declared.insertion.BuilderMode.{BuilderMode}
use Rattle.hm_insertion.specs.declared.insertion.BuilderMode.TheVariants.{Initial, BeforeHtml, BeforeHead, InHead, AfterHead, InBody, AfterBody as PastBody, AfterHtml}
use Rattle.hm_insertion.specs.declared.parts.Parts.{Parts}
use Rattle.hm_insertion.proofs.Events.{grown_tags, grown_nothing, walk_any}
use Rattle.hm_insertion.proofs.PlainTexts.{done_by}

-- tags, comments and a doctype were appended to the walk
pub any_done : (s : Stepped) (es : List Event) (st : Construction) (old new : Parts) → s ≡ went es st → IsKept old → has_no_text es ≡ true → state_of new ≡ st → path_after (open_path old.insertion_mode old.path) es ≡ open_path new.insertion_mode new.path
    → IsFresh new.insertion_mode new.path → new.maker ≡ old.maker ++ es → IsDone s old new
any_done s es st old new is kept tags state leads fresh walk =
    done_by s es st old new is
    (record { walk = rw walk (walk_any old.maker (open_path old.insertion_mode old.path) es (open_path new.insertion_mode new.path) kept.walk tags leads); fresh = fresh })
    state (walk ∙ sym (grown_tags old.maker es kept.walk.apart tags))

pub tags_done : (s : Stepped) (e : Event) (es : List Event) (st : Construction) (old new : Parts) → s ≡ went (e ∷ es) st → IsKept old → has_no_text (e ∷ es) ≡ true → state_of new ≡ st → path_after (open_path old.insertion_mode old.path) (e ∷ es) ≡ open_path new.insertion_mode new.path
    → IsFresh new.insertion_mode new.path → new.maker ≡ old.maker ++ e ∷ es → IsDone s old new
tags_done s e es st old new is kept tags state leads fresh walk = any_done s (e ∷ es) st old new is kept tags state leads fresh walk

-- nothing was appended to the walk
pub silent_done : (s : Stepped) (st : Construction) (old new : Parts) → s ≡ went [] st → IsKept old → state_of new ≡ st → open_path new.insertion_mode new.path ≡ open_path old.insertion_mode old.path → IsFresh new.insertion_mode new.path → new.maker ≡ old.maker → IsDone s old new
silent_done s st old new is kept state same fresh walk =
    done_by s [] st old new is (record { walk = rw (walk, same) kept.walk; fresh = fresh }) state (walk ∙ sym (grown_nothing old.maker kept.walk.apart))

at_mode : (p : Parts) (ph : BuilderMode) → p.insertion_mode ≡ ph → p ≡ record p { insertion_mode = ph }
at_mode p ph e = ap (λ x. record p { insertion_mode = x }) e

-- what holds of the parts in an insertion mode
pub in_insertion_mode : (P : Parts → Type 0) (p : Parts) (ph : BuilderMode) → p.insertion_mode ≡ ph → IsKept p → (IsKept (record p { insertion_mode = ph }) → P (record p { insertion_mode = ph })) → P p
in_insertion_mode P p ph e kept f = subst P (sym (at_mode p ph e)) (f (subst IsKept (at_mode p ph e) kept))

module _ (p : Parts) (legacy : Bool) where
  pub doctype_went : p.insertion_mode ≡ Initial → step (state_of p) (tokens.doctype legacy) ≡ went (doctype legacy ∷ []) (record (no_drop (state_of p)) { insertion_mode = steps.before_html })
  unfolding step
  doctype_went e = ap (λ ph. step_doctype (insertion_mode_of ph) legacy (no_drop (state_of p))) e

  pub doctype_done : (w : List Event) → p.insertion_mode ≡ Initial → IsKept p → w ≡ p.maker ++ doctype legacy ∷ [] → IsDone (step (state_of p) (tokens.doctype legacy)) p (record p { maker = w; insertion_mode = BeforeHtml; drops_line_feed = false })
  doctype_done w e kept is =
      in_insertion_mode (λ q. IsDone (step (state_of p) (tokens.doctype legacy)) q (record q { maker = w; insertion_mode = BeforeHtml; drops_line_feed = false })) p Initial e kept
      (λ k. tags_done (step (state_of p) (tokens.doctype legacy)) (doctype legacy) [] (record (no_drop (state_of p)) { insertion_mode = steps.before_html }) (record p { insertion_mode = Initial }) (record p { maker = w; insertion_mode = BeforeHtml; drops_line_feed = false })
      (doctype_went e) k refl (ap (λ ph. record (no_drop (state_of p)) { insertion_mode = steps.before_html; path = open_path ph p.path }) (sym e)) refl k.fresh is)

  pub doctype_stops : (p.insertion_mode ≡ Initial → ⊥) → step (state_of p) (tokens.doctype legacy) ≡ stops SecondDoctype 0
  unfolding step
  doctype_stops other = by p.insertion_mode other
    where
      by : (ph : BuilderMode) → (ph ≡ Initial → ⊥) → step_doctype (insertion_mode_of ph) legacy (no_drop (state_of p)) ≡ stops SecondDoctype 0
      by Initial h = absurd (h refl)
      by BeforeHtml h = refl
      by BeforeHead h = refl
      by (InHead here inside) h = refl
      by AfterHead h = refl
      by InBody h = refl
      by PastBody h = refl
      by AfterHtml h = refl

module _ (p : Parts) (s : List ℕ) where
  pub comment_went : (p.insertion_mode ≡ PastBody → ⊥) → (p.insertion_mode ≡ AfterHtml → ⊥) → step (state_of p) (tokens.comment s) ≡ went (comment s ∷ []) (no_drop (state_of p))
  unfolding step
  comment_went not_body not_html = by p.insertion_mode not_body not_html
    where
      by : (ph : BuilderMode) → (ph ≡ PastBody → ⊥) → (ph ≡ AfterHtml → ⊥) → step_comment (insertion_mode_of ph) s (no_drop (state_of p)) ≡ went (comment s ∷ []) (no_drop (state_of p))
      by Initial h k = refl
      by BeforeHtml h k = refl
      by BeforeHead h k = refl
      by (InHead here inside) h k = refl
      by AfterHead h k = refl
      by InBody h k = refl
      by PastBody h k = absurd (h refl)
      by AfterHtml h k = absurd (k refl)

  pub comment_done : (w : List Event) → (p.insertion_mode ≡ PastBody → ⊥) → (p.insertion_mode ≡ AfterHtml → ⊥) → IsKept p → w ≡ p.maker ++ comment s ∷ [] → IsDone (step (state_of p) (tokens.comment s)) p (record p { maker = w; drops_line_feed = false })
  comment_done w not_body not_html kept is =
      tags_done (step (state_of p) (tokens.comment s)) (comment s) [] (no_drop (state_of p)) p (record p { maker = w; drops_line_feed = false }) (comment_went not_body not_html) kept refl refl refl kept.fresh is

  pub kept_after_body : (words : Vec (List ℕ) Global) → p.insertion_mode ≡ PastBody → IsKept p → words.items ≡ p.comments_after_body.items ++ s ∷ [] → IsDone (step (state_of p) (tokens.comment s)) p (record p { drops_line_feed = false; comments_after_body = words })
  unfolding step
  kept_after_body words e kept is =
      silent_done (step (state_of p) (tokens.comment s)) (record (no_drop (state_of p)) { comments_after_body = p.comments_after_body.items ++ s ∷ [] }) p (record p { drops_line_feed = false; comments_after_body = words })
      (ap (λ ph. step_comment (insertion_mode_of ph) s (no_drop (state_of p))) e) kept (ap (λ x. record (no_drop (state_of p)) { comments_after_body = x }) is) refl kept.fresh refl

  pub kept_after_html : (words : Vec (List ℕ) Global) → p.insertion_mode ≡ AfterHtml → IsKept p → words.items ≡ p.comments_after_html.items ++ s ∷ [] → IsDone (step (state_of p) (tokens.comment s)) p (record p { drops_line_feed = false; comments_after_html = words })
  unfolding step
  kept_after_html words e kept is =
      silent_done (step (state_of p) (tokens.comment s)) (record (no_drop (state_of p)) { comments_after_html = p.comments_after_html.items ++ s ∷ [] }) p (record p { drops_line_feed = false; comments_after_html = words })
      (ap (λ ph. step_comment (insertion_mode_of ph) s (no_drop (state_of p))) e) kept (ap (λ x. record (no_drop (state_of p)) { comments_after_html = x }) is) refl kept.fresh refl
