-- End tags before the body.
use Rattle.std.proofs.Common.{◌≡◌, ℕ, Bool, true, false, cond, List, [], ◌∷◌, ◌++◌, length, Option, Some, None, bytes_eq, sym, ap, subst, ◌∙◌, refl, arith, ◌<◌}
use Rattle.std.specs.declared.vec.Vec.{Vec}
use Rattle.std.specs.declared.alloc.Global.{Global}
use Rattle.std.proofs.lemmas.Bool.{false_from_ne_true}
use Rattle.hm_base.specs.Walks.{Event, end, Element, path_after}
use Rattle.hm_base.specs.declared.rules.Rule.TheVariants.{StrayEnd, NotCurrent, NoDoctype}
use Rattle.hm_elements.specs.Names.{is_among, html, head, body, noscript}
use Rattle.hm_elements.specs.Tables.{is_raw, is_rcdata, raw_names, rcdata_names, holds_text}
use Rattle.hm_elements.specs.Paths.{current, is_open}
use Rattle.hm_elements.proofs.TableTools.{same_bytes}
use Rattle.hm_tree.specs.Trees.{end_of}
use Rattle.hm_tree.specs.Tokens as tokens
use Rattle.hm_construction_laws.specs.Steps as steps
use Rattle.hm_construction_laws.specs.Steps.{went, stops, step, step_end, end_current, is_at_end, under_html, under_head, under_body}
use Rattle.hm_insertion.specs.Inside.{insertion_mode_of, open_path, text_name, inside_head, under_noscript, state_of, has_no_text, missing, head_ended, HasBodyPath, IsUnbegun, IsInner, IsKept, IsDone, is_noscript_around}
use Rattle.hm_insertion.specs.declared.insertion.HeadText.{HeadText}
use Rattle.hm_insertion.specs.declared.insertion.HeadText.TheVariants.{Title, Style, Script}
use Rattle.hm_insertion.specs.declared.insertion.BuilderMode.{BuilderMode}
use Rattle.hm_insertion.specs.declared.insertion.BuilderMode.TheVariants.{Initial, BeforeHtml, BeforeHead, InHead, AfterHead, InBody, AfterBody as PastBody, AfterHtml}
use Rattle.hm_insertion.specs.declared.parts.Parts.{Parts}
use Rattle.hm_insertion.proofs.Dropped.{undropped}
use Rattle.hm_insertion.proofs.Others.{any_done}
use Rattle.hm_insertion.proofs.EndTags.{body_open, body_fresh}

module _ (w : List Event) (path : List Element) (drops : Bool) (inner last : Vec (List ℕ) Global) where
  abbrev pub parts : BuilderMode → Parts
  parts ph = record { maker = w; insertion_mode = ph; path = path; drops_line_feed = drops; comments_after_body = inner; comments_after_html = last }

  pub head_went : (ph : BuilderMode) → IsUnbegun ph → (ph ≡ AfterHead → ⊥) → steps.end_head (insertion_mode_of ph) (state_of (parts ph)) ≡ went (head_ended ph) (record (state_of (parts ph)) { insertion_mode = steps.after_head; path = under_html })
  head_went Initial u other = absurd u
  head_went BeforeHtml u other = refl
  head_went BeforeHead u other = refl
  head_went (InHead false None) u other = refl
  head_went (InHead false (Some text)) u other = absurd u
  head_went (InHead true inside) u other = absurd u
  head_went AfterHead u other = absurd (other refl)
  head_went InBody u other = absurd u
  head_went PastBody u other = absurd u
  head_went AfterHtml u other = absurd u

  pub head_done : (ph : BuilderMode) (v : List Event) → IsUnbegun ph → (ph ≡ AfterHead → ⊥) → IsKept (parts ph) → v ≡ w ++ head_ended ph → IsDone (steps.end_head (insertion_mode_of ph) (state_of (parts ph))) (parts ph) (record (parts AfterHead) { maker = v })
  head_done Initial v u other kept is = absurd u
  head_done BeforeHtml v u other kept is = any_done _ (head_ended BeforeHtml) _ (parts BeforeHtml) (record (parts AfterHead) { maker = v }) (head_went BeforeHtml u other) kept refl refl refl kept.fresh is
  head_done BeforeHead v u other kept is = any_done _ (head_ended BeforeHead) _ (parts BeforeHead) (record (parts AfterHead) { maker = v }) (head_went BeforeHead u other) kept refl refl refl kept.fresh is
  head_done (InHead false None) v u other kept is = any_done _ (head_ended (InHead false None)) _ (parts (InHead false None)) (record (parts AfterHead) { maker = v }) (head_went (InHead false None) u other) kept refl refl refl kept.fresh is
  head_done (InHead false (Some text)) v u other kept is = absurd u
  head_done (InHead true inside) v u other kept is = absurd u
  head_done AfterHead v u other kept is = absurd (other refl)
  head_done InBody v u other kept is = absurd u
  head_done PastBody v u other kept is = absurd u
  head_done AfterHtml v u other kept is = absurd u

  pub left_went : (ph to : BuilderMode) → IsUnbegun ph → steps.reach_body (insertion_mode_of ph) (steps.leave_body (insertion_mode_of to)) (state_of (parts ph)) ≡ went (missing ph) (record (state_of (parts ph)) { insertion_mode = insertion_mode_of to; path = under_body })
  unfolding is_at_end
  left_went Initial to u = absurd u
  left_went BeforeHtml to u = refl
  left_went BeforeHead to u = refl
  left_went (InHead false None) to u = refl
  left_went (InHead false (Some text)) to u = absurd u
  left_went (InHead true inside) to u = absurd u
  left_went AfterHead to u = refl
  left_went InBody to u = absurd u
  left_went PastBody to u = absurd u
  left_went AfterHtml to u = absurd u

  pub unbegun_fresh : (ph : BuilderMode) → IsUnbegun ph → IsKept (parts ph) → path ≡ under_body
  unbegun_fresh Initial u kept = absurd u
  unbegun_fresh BeforeHtml u kept = kept.fresh
  unbegun_fresh BeforeHead u kept = kept.fresh
  unbegun_fresh (InHead false None) u kept = kept.fresh
  unbegun_fresh (InHead false (Some text)) u kept = absurd u
  unbegun_fresh (InHead true inside) u kept = absurd u
  unbegun_fresh AfterHead u kept = kept.fresh
  unbegun_fresh InBody u kept = absurd u
  unbegun_fresh PastBody u kept = absurd u
  unbegun_fresh AfterHtml u kept = absurd u

  made_leads : (ph : BuilderMode) → IsUnbegun ph → (path_after (open_path ph path) (missing ph) ≡ under_body) × (has_no_text (missing ph) ≡ true)
  made_leads Initial u = absurd u
  made_leads BeforeHtml u = (refl, refl)
  made_leads BeforeHead u = (refl, refl)
  made_leads (InHead false None) u = (refl, refl)
  made_leads (InHead false (Some text)) u = absurd u
  made_leads (InHead true inside) u = absurd u
  made_leads AfterHead u = (refl, refl)
  made_leads InBody u = absurd u
  made_leads PastBody u = absurd u
  made_leads AfterHtml u = absurd u

  pub left_unbegun : (ph to : BuilderMode) (v : List Event) → IsUnbegun ph → HasBodyPath to → IsKept (parts ph) → v ≡ w ++ missing ph
      → IsDone (steps.reach_body (insertion_mode_of ph) (steps.leave_body (insertion_mode_of to)) (state_of (parts ph))) (parts ph) (record (parts to) { maker = v })
  left_unbegun ph to v u there kept is =
      let fresh = unbegun_fresh ph u kept in
      let open_then : open_path to path ≡ under_body = body_open to path there ∙ fresh in
      any_done _ (missing ph) (record (state_of (parts ph)) { insertion_mode = insertion_mode_of to; path = under_body }) (parts ph) (record (parts to) { maker = v })
      (left_went ph to u) kept (made_leads ph u).1 (ap (λ x. record (state_of (parts ph)) { insertion_mode = insertion_mode_of to; path = x }) open_then) ((made_leads ph u).0 ∙ sym open_then)
      (body_fresh to path there (rw fresh refl)) is

  pub unbegun_step : (n : List ℕ) (ph : BuilderMode) → IsUnbegun ph → step_end n (state_of (parts ph)) ≡ cond (bytes_eq n head) (steps.end_head (insertion_mode_of ph) (state_of (parts ph)))
      (cond (bytes_eq n body) (steps.reach_body (insertion_mode_of ph) (steps.leave_body steps.after_body) (state_of (parts ph))) (cond (bytes_eq n html) (steps.reach_body (insertion_mode_of ph) (steps.leave_body steps.after_html) (state_of (parts ph))) (stops StrayEnd 0)))
  unfolding step_end holds_text is_raw is_rcdata raw_names rcdata_names is_among
  unbegun_step n Initial u = absurd u
  unbegun_step n BeforeHtml u = refl
  unbegun_step n BeforeHead u = refl
  unbegun_step n (InHead false None) u = refl
  unbegun_step n (InHead false (Some text)) u = absurd u
  unbegun_step n (InHead true inside) u = absurd u
  unbegun_step n AfterHead u = refl
  unbegun_step n InBody u = absurd u
  unbegun_step n PastBody u = absurd u
  unbegun_step n AfterHtml u = absurd u

  other_name : (m n : List ℕ) → (n ≡ m → ⊥) → bytes_eq n m ≡ false
  other_name m n h = false_from_ne_true (bytes_eq n m) (λ e. h (same_bytes n m e))

  module _ (n : List ℕ) (ph : BuilderMode) (u : IsUnbegun ph) where
    pub unbegun_head : n ≡ head → step_end n (state_of (parts ph)) ≡ steps.end_head (insertion_mode_of ph) (state_of (parts ph))
    unbegun_head is = unbegun_step n ph u ∙ (rw is refl)

    pub unbegun_body : n ≡ body → step_end n (state_of (parts ph)) ≡ steps.reach_body (insertion_mode_of ph) (steps.leave_body steps.after_body) (state_of (parts ph))
    unbegun_body is = unbegun_step n ph u ∙ (rw is refl)

    pub unbegun_html : n ≡ html → step_end n (state_of (parts ph)) ≡ steps.reach_body (insertion_mode_of ph) (steps.leave_body steps.after_html) (state_of (parts ph))
    unbegun_html is = unbegun_step n ph u ∙ (rw is refl)

    pub unbegun_other : (n ≡ head → ⊥) → (n ≡ body → ⊥) → (n ≡ html → ⊥) → step_end n (state_of (parts ph)) ≡ stops StrayEnd 0
    unbegun_other h b k = unbegun_step n ph u ∙ (rw (other_name head n h, other_name body n b, other_name html n k) refl)

  inner_step : (n : List ℕ) (here : Bool) (inside : Option HeadText) → IsInner here inside → step_end n (state_of (parts (InHead here inside))) ≡ end_current n (state_of (parts (InHead here inside))) (inside_head here inside)
  unfolding step_end holds_text is_raw is_rcdata raw_names rcdata_names is_among
  inner_step n here (Some Title) i = refl
  inner_step n here (Some Style) i = refl
  inner_step n here (Some Script) i = refl
  inner_step n true None i = refl
  inner_step n false None i = absurd i

  -- the innermost element in head is ended
  pub inside_done : (n : List ℕ) (here : Bool) (inside : Option HeadText) (v : List Event) → IsInner here inside → bytes_eq (current (inside_head here inside)) n ≡ true → IsKept (parts (InHead here inside)) → v ≡ w ++ end_of (path_after [] w)
      → IsDone (step_end n (state_of (parts (InHead here inside)))) (parts (InHead here inside)) (record (parts (InHead (is_noscript_around here inside) None)) { maker = v })
  inside_done n here (Some text) v i same kept is =
      any_done _ (end (text_name text) false ∷ []) (record (state_of (parts (InHead here (Some text)))) { path = under_noscript here }) (parts (InHead here (Some text))) (record (parts (InHead here None)) { maker = v })
      (inner_step n here (Some text) i ∙ (rw same refl)) kept refl refl refl kept.fresh (is ∙ ap (λ x. w ++ end_of x) kept.walk.leads)
  inside_done n true None v i same kept is =
      any_done _ (end noscript false ∷ []) (record (state_of (parts (InHead true None))) { path = under_head }) (parts (InHead true None)) (record (parts (InHead false None)) { maker = v })
      (inner_step n true None i ∙ (rw same refl)) kept refl refl refl kept.fresh (is ∙ ap (λ x. w ++ end_of x) kept.walk.leads)
  inside_done n false None v i same kept is = absurd i

  pub inside_refused : (n : List ℕ) (here : Bool) (inside : Option HeadText) (b : Bool) → IsInner here inside → bytes_eq (current (inside_head here inside)) n ≡ false → is_open n (under_noscript (is_noscript_around here inside)) ≡ b
      → step_end n (state_of (parts (InHead here inside))) ≡ cond b (stops NotCurrent 0) (stops StrayEnd 0)
  inside_refused n here (Some text) b i other open_there = inner_step n here (Some text) i ∙ (rw (other, open_there) refl)
  inside_refused n true None b i other open_there = inner_step n true None i ∙ (rw (other, open_there) refl)
  inside_refused n false None b i other open_there = absurd i

  -- something is open in its innermost element
  pub inside_open : (here : Bool) (inside : Option HeadText) → IsInner here inside → IsKept (parts (InHead here inside)) → 0 < length (path_after [] w)
  inside_open here (Some text) i kept = omega (arith, ap length kept.walk.leads)
  inside_open true None i kept = omega (arith, ap length kept.walk.leads)
  inside_open false None i kept = absurd i

-- in its insertion mode
pub at_its_mode : (P : Parts → Type 0) (p : Parts) (ph : BuilderMode) → p.insertion_mode ≡ ph → P (record p { insertion_mode = ph }) → P p
at_its_mode P p ph e h = subst (λ x. P (record p { insertion_mode = x })) (sym e) h

pub kept_at : (p : Parts) (ph : BuilderMode) → p.insertion_mode ≡ ph → IsKept p → IsKept (record p { insertion_mode = ph })
kept_at p ph e kept = subst (λ x. IsKept (record p { insertion_mode = x })) e kept

-- a token is stepped from a state in which no line feed is dropped
pub end_step : (p : Parts) (n : List ℕ) → step (state_of p) (tokens.end_tag n) ≡ step_end n (state_of (undropped p))
unfolding step
end_step p n = refl

pub end_initial : (p : Parts) (n : List ℕ) → p.insertion_mode ≡ Initial → step (state_of p) (tokens.end_tag n) ≡ stops NoDoctype 0
unfolding step step_end
end_initial p n e = ap (λ ph. step_end n (state_of (record (undropped p) { insertion_mode = ph }))) e
