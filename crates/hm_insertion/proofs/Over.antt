-- The end of the page.
use Rattle.std.proofs.Common.{◌≡◌, ℕ, ◌+◌, ◌-◌, ◌<◌, Bool, true, false, not, cond, List, [], ◌∷◌, ◌++◌, map, length, take, drop, Option, Some, None, sym, ap, subst, ◌∙◌, refl, arith, append_assoc, get_or}
use Rattle.std.specs.declared.vec.Vec.{Vec}
use Rattle.std.specs.declared.alloc.Global.{Global}
use Rattle.std.proofs.lemmas.Bool.{and_parts, and_from}
use Rattle.std.proofs.lemmas.List.{take-append-drop, take_more, map-append}
use Rattle.hm_base.specs.Walks.{Event, comment, Element, path_after}
use Rattle.hm_base.specs.declared.rules.Rule.{Rule}
use Rattle.hm_base.specs.declared.rules.Rule.TheVariants.{Cut, NoDoctype, Unclosed}
use Rattle.hm_elements.specs.Names.{is_among}
use Rattle.hm_elements.specs.Tables.{is_raw, is_rcdata, raw_names, rcdata_names, holds_text}
use Rattle.hm_elements.specs.Paths.{is_in_text}
use Rattle.hm_construction_laws.specs.Steps as steps
use Rattle.hm_construction_laws.specs.Steps.{Construction, went, stops, step_over, is_at_end, closing, end_event, under_body}
use Rattle.hm_tree.specs.Trees.{HasRoom, end_of}
use Rattle.hm_tree.specs.Rows.{is_text}
use Rattle.hm_insertion.specs.Building.{Fits, IsBuilt}
use Rattle.hm_insertion.specs.Inside.{open_path, state_of, has_no_text, missing, html_made, head_made, head_closed, body_made, end_rule, IsFresh, IsKept, CanMake, IsWalkTo}
use Rattle.hm_insertion.specs.declared.insertion.BuilderMode.{BuilderMode}
use Rattle.hm_insertion.specs.declared.insertion.BuilderMode.TheVariants.{Initial, BeforeHtml, BeforeHead, InHead, AfterHead, InBody, AfterBody as PastBody, AfterHtml}
use Rattle.hm_insertion.specs.declared.parts.Parts.{Parts}
use Rattle.hm_insertion.proofs.Events.{path_after-append, HasRoom-front, grown_tags}
use Rattle.hm_insertion.proofs.EndTags.{ends_lead}
use Rattle.hm_insertion.proofs.Open.{no_text_in_head, some_none}
use Rattle.hm_insertion.proofs.Unbegun.{parts}
use Rattle.hm_insertion.proofs.AtEnd.{Begins}

-- ---- What the step is

module _ (w : List Event) (path : List Element) (drops : Bool) (inner last : Vec (List ℕ) Global) where
  abbrev pub Over : BuilderMode → Option Rule → Type 0
  Over ph (Some rule) = step_over (state_of (parts w path drops inner last ph)) ≡ stops rule 0
  Over ph None = (st : Construction) × (step_over (state_of (parts w path drops inner last ph)) ≡ went (missing ph ++ closing path inner.items last.items) st)

  pub over_text : (ph : BuilderMode) → is_in_text (open_path ph path) ≡ true → step_over (state_of (parts w path drops inner last ph)) ≡ stops Cut 0
  unfolding step_over
  over_text ph h = rw h refl

  over_at_end : is_in_text path ≡ false → is_at_end path ≡ true → step_over (state_of (parts w path drops inner last InBody)) ≡ went (closing path inner.items last.items) (record (state_of (parts w path drops inner last InBody)) { insertion_mode = steps.after_html })
  unfolding step_over
  over_at_end h e = rw (h, e) refl

  over_unclosed : is_in_text path ≡ false → is_at_end path ≡ false → step_over (state_of (parts w path drops inner last InBody)) ≡ stops Unclosed 0
  unfolding step_over
  over_unclosed h e = rw (h, e) refl

  over_past : is_in_text path ≡ false → step_over (state_of (parts w path drops inner last PastBody)) ≡ went (closing path inner.items last.items) (state_of (parts w path drops inner last PastBody))
  unfolding step_over
  over_past h = rw h refl

  over_past_html : is_in_text path ≡ false → step_over (state_of (parts w path drops inner last AfterHtml)) ≡ went (closing path inner.items last.items) (state_of (parts w path drops inner last AfterHtml))
  unfolding step_over
  over_past_html h = rw h refl

  at_body_closing : (ph : BuilderMode) (st : Construction) → path ≡ under_body → step_over (state_of (parts w path drops inner last ph)) ≡ went (missing ph ++ closing under_body inner.items last.items) st → Over ph None
  at_body_closing ph st fresh h = (st, subst (λ x. step_over (state_of (parts w path drops inner last ph)) ≡ went (missing ph ++ closing x inner.items last.items) st) (sym fresh) h)

  abbrev pub made_state : Construction
  made_state = record { insertion_mode = steps.after_html; path = under_body; drops_line_feed = drops; comments_after_body = inner.items; comments_after_html = last.items }

  over_body : is_in_text path ≡ false → Over InBody (end_rule InBody path)
  over_body h = by (is_at_end path) refl
    where
      by : (b : Bool) → is_at_end path ≡ b → Over InBody (cond (not b) (Some Unclosed) None)
      by true e = (record (state_of (parts w path drops inner last InBody)) { insertion_mode = steps.after_html }, over_at_end h e)
      by false e = over_unclosed h e

  pub over : (ph : BuilderMode) → is_in_text (open_path ph path) ≡ false → IsFresh ph path → Over ph (end_rule ph path)
  unfolding step_over is_at_end holds_text is_raw is_rcdata raw_names rcdata_names is_among
  over Initial h fresh = refl
  over BeforeHtml h fresh = at_body_closing BeforeHtml made_state fresh refl
  over BeforeHead h fresh = at_body_closing BeforeHead made_state fresh refl
  over (InHead true None) h fresh = refl
  over (InHead false None) h fresh = at_body_closing (InHead false None) made_state fresh refl
  over (InHead true (Some text)) h fresh = absurd (no_text_in_head true text h)
  over (InHead false (Some text)) h fresh = absurd (no_text_in_head false text h)
  over AfterHead h fresh = at_body_closing AfterHead made_state fresh refl
  over InBody h fresh = over_body h
  over PastBody h fresh = (state_of (parts w path drops inner last PastBody), over_past h)
  over AfterHtml h fresh = (state_of (parts w path drops inner last AfterHtml), over_past_html h)

-- ---- All that is open closes

pub record ClosingParts (path : List Element) (inner last : List (List ℕ)) : Type 0 where
  pub outermost : Element
  pub left : drop (length path - 1) path ≡ outermost ∷ []
  pub events : closing path inner last ≡ map end_event (take (length path - 1) path) ++ (map comment inner ++ end_event outermost ∷ map comment last)

split_closing : (e : Element) (path : List Element) (inner last : List (List ℕ)) → (x : Element) × (drop (length path) (e ∷ path) ≡ x ∷ []) × (closing (e ∷ path) inner last ≡ map end_event (take (length path) (e ∷ path)) ++ (map comment inner ++ end_event x ∷ map comment last))
split_closing e [] inner last = (e, refl, refl)
split_closing e (f ∷ path) inner last =
    let rest = split_closing f path inner last in
    (rest.0, rest.1, ap (λ es. end_event e ∷ es) rest.2)

pub closing_parts : (path : List Element) (inner last : List (List ℕ)) → 0 < length path → ClosingParts path inner last
closing_parts [] inner last some = absurd (omega arith)
closing_parts (e ∷ path) inner last some =
    let rest = split_closing e path inner last in
    let count : length (e ∷ path) - 1 ≡ length path = omega arith in
    record {
      outermost = rest.0;
      left = rw count rest.1;
      events = rw count rest.2;
    }

comments_lead : (path : List Element) (s : List (List ℕ)) → path_after path (map comment s) ≡ path
comments_lead path [] = refl
comments_lead path (c ∷ s) = comments_lead path s

comments_no_text : (s : List (List ℕ)) → has_no_text (map comment s) ≡ true
comments_no_text [] = refl
comments_no_text (c ∷ s) = comments_no_text s

no_text_append : (es fs : List Event) → has_no_text es ≡ true → has_no_text fs ≡ true → has_no_text (es ++ fs) ≡ true
no_text_append [] fs h k = k
no_text_append (x ∷ es) fs h k =
    let both = and_parts (not (is_text x)) (has_no_text es) h in
    and_from (not (is_text x)) (has_no_text (es ++ fs)) both.0 (no_text_append es fs both.1 k)

pub closing_leads : (path : List Element) (inner last : List (List ℕ)) → path_after path (closing path inner last) ≡ []
closing_leads [] inner last = path_after-append [] (map comment inner) (map comment last) ∙ ap (λ p. path_after p (map comment last)) (comments_lead [] inner) ∙ comments_lead [] last
closing_leads (e ∷ []) inner last = path_after-append (e ∷ []) (map comment inner) (end_event e ∷ map comment last) ∙ ap (λ p. path_after p (end_event e ∷ map comment last)) (comments_lead (e ∷ []) inner) ∙ comments_lead [] last
closing_leads (e ∷ f ∷ path) inner last = closing_leads (f ∷ path) inner last

pub closing_no_text : (path : List Element) (inner last : List (List ℕ)) → has_no_text (closing path inner last) ≡ true
closing_no_text [] inner last = no_text_append (map comment inner) (map comment last) (comments_no_text inner) (comments_no_text last)
closing_no_text (e ∷ []) inner last = no_text_append (map comment inner) (end_event e ∷ map comment last) (comments_no_text inner) (comments_no_text last)
closing_no_text (e ∷ f ∷ path) inner last = closing_no_text (f ∷ path) inner last

pub record CloseAll (w : List Event) (inner last : List (List ℕ)) (ended with_inner closed : List Event) : Type 0 where
  pub inner_room : HasRoom (ended ++ map comment inner)
  pub open_still : 0 < length (path_after [] with_inner)
  pub last_room : HasRoom (closed ++ map comment last)
  pub all : closed ++ map comment last ≡ w ++ closing (path_after [] w) inner last

pub close_all : (w ended with_inner closed : List Event) (inner last : List (List ℕ)) (count : ℕ) → 0 < length (path_after [] w) → count ≡ length (path_after [] w) - 1 → HasRoom (w ++ closing (path_after [] w) inner last)
    → ended ≡ w ++ map end_event (take count (path_after [] w)) → with_inner ≡ ended ++ map comment inner → closed ≡ with_inner ++ end_of (path_after [] with_inner) → CloseAll w inner last ended with_inner closed
close_all w ended with_inner closed inner last count some count_is room ended_is with_is closed_is =
    let path = path_after [] w in
    let cut = closing_parts path inner last some in
    let ends = map end_event (take (length path - 1) path) in
    let ended_then : ended ≡ w ++ ends = ended_is ∙ ap (λ n. w ++ map end_event (take n path)) count_is in
    let open_then : path_after [] ended ≡ cut.outermost ∷ [] =
    ap (path_after []) ended_then ∙ path_after-append [] w ends
    ∙ ap (λ p. path_after p ends) (sym (take-append-drop (length path - 1) path)) ∙ ends_lead (take (length path - 1) path) (drop (length path - 1) path) ∙ cut.left in
    let open_inner : path_after [] with_inner ≡ cut.outermost ∷ [] = ap (path_after []) with_is ∙ path_after-append [] ended (map comment inner) ∙ comments_lead (path_after [] ended) inner ∙ open_then in
    let closed_then : closed ≡ (ended ++ map comment inner) ++ end_event cut.outermost ∷ [] = closed_is ∙ ap (λ p. with_inner ++ end_of p) open_inner ∙ ap (λ v. v ++ end_event cut.outermost ∷ []) with_is in
    let all_is : closed ++ map comment last ≡ w ++ closing path inner last =
    ap (λ v. v ++ map comment last) closed_then ∙ append_assoc (ended ++ map comment inner) (end_event cut.outermost ∷ []) (map comment last)
    ∙ append_assoc ended (map comment inner) (end_event cut.outermost ∷ map comment last)
    ∙ ap (λ v. v ++ (map comment inner ++ end_event cut.outermost ∷ map comment last)) ended_then
    ∙ append_assoc w ends (map comment inner ++ end_event cut.outermost ∷ map comment last)
    ∙ ap (λ es. w ++ es) (sym cut.events) in
    let whole : HasRoom (closed ++ map comment last) = subst HasRoom (sym all_is) room in
    record {
      inner_room = HasRoom-front (ended ++ map comment inner) (end_event cut.outermost ∷ []) (subst HasRoom closed_then (HasRoom-front closed (map comment last) whole));
      open_still = omega (arith, ap length open_inner);
      last_room = whole;
      all = all_is;
    }

pub comment_room : (w now : List Event) (cs : List (List ℕ)) (i : ℕ) (s : List ℕ) → HasRoom (w ++ map comment cs) → now ≡ w ++ map comment (take i cs) → s ≡ get_or cs i s → i < length cs → HasRoom (now ++ comment s ∷ [])
comment_room w now cs i s room now_is at within =
    let more : take (i + 1) cs ≡ take i cs ++ s ∷ [] = take_more cs i s within ∙ ap (λ x. take i cs ++ x ∷ []) (sym at) in
    let front : map comment (take (i + 1) cs) ≡ map comment (take i cs) ++ comment s ∷ [] = ap (map comment) more ∙ map-append comment (take i cs) (s ∷ []) in
    let all : map comment cs ≡ map comment (take (i + 1) cs) ++ map comment (drop (i + 1) cs) = ap (map comment) (sym (take-append-drop (i + 1) cs)) ∙ map-append comment (take (i + 1) cs) (drop (i + 1) cs) in
    let here : now ++ comment s ∷ [] ≡ w ++ map comment (take (i + 1) cs) = ap (λ v. v ++ comment s ∷ []) now_is ∙ append_assoc w (map comment (take i cs)) (comment s ∷ []) ∙ ap (λ es. w ++ es) (sym front) in
    subst HasRoom (sym here) (HasRoom-front (w ++ map comment (take (i + 1) cs)) (map comment (drop (i + 1) cs)) (subst HasRoom (ap (λ es. w ++ es) all ∙ sym (append_assoc w (map comment (take (i + 1) cs)) (map comment (drop (i + 1) cs)))) room))

pub some_path : (path : List Element) → Begins path → 0 < length path
some_path [] begins = absurd (cc)
some_path (e ∷ path) begins = omega arith

-- where the page may end, all that is missing up to body can be made
pub over_makes : (ph : BuilderMode) (path : List Element) (w : List Event) → is_in_text (open_path ph path) ≡ false → None ≡ end_rule ph path → IsFresh ph path → IsWalkTo w (open_path ph path) → CanMake ph (path_after [] w) × (path_after [] (w ++ missing ph) ≡ path) × (has_no_text (missing ph) ≡ true)
unfolding holds_text is_raw is_rcdata raw_names rcdata_names is_among
over_makes Initial path w h none fresh walk = absurd (some_none NoDoctype (sym none))
over_makes BeforeHtml path w h none fresh walk = (walk.leads, path_after-append [] w html_made ∙ ap (λ p. path_after p html_made) walk.leads ∙ sym fresh, refl)
over_makes BeforeHead path w h none fresh walk = (walk.leads, path_after-append [] w head_made ∙ ap (λ p. path_after p head_made) walk.leads ∙ sym fresh, refl)
over_makes (InHead true None) path w h none fresh walk = absurd (some_none Unclosed (sym none))
over_makes (InHead false None) path w h none fresh walk = (walk.leads, path_after-append [] w head_closed ∙ ap (λ p. path_after p head_closed) walk.leads ∙ sym fresh, refl)
over_makes (InHead true (Some text)) path w h none fresh walk = absurd (no_text_in_head true text h)
over_makes (InHead false (Some text)) path w h none fresh walk = absurd (no_text_in_head false text h)
over_makes AfterHead path w h none fresh walk = (walk.leads, path_after-append [] w body_made ∙ ap (λ p. path_after p body_made) walk.leads ∙ sym fresh, refl)
over_makes InBody path w h none fresh walk = (tt, path_after-append [] w [] ∙ walk.leads, refl)
over_makes PastBody path w h none fresh walk = (tt, path_after-append [] w [] ∙ walk.leads, refl)
over_makes AfterHtml path w h none fresh walk = (tt, path_after-append [] w [] ∙ walk.leads, refl)

pub record Finishes (p : Parts) (tree : List Event) : Type 0 where
  pub made_room : HasRoom (p.maker ++ missing p.insertion_mode)
  pub can : CanMake p.insertion_mode (path_after [] p.maker)
  pub open_still : 0 < length (path_after [] (p.maker ++ missing p.insertion_mode))
  pub room : HasRoom ((p.maker ++ missing p.insertion_mode) ++ closing (path_after [] (p.maker ++ missing p.insertion_mode)) p.comments_after_body.items p.comments_after_html.items)
  pub closes : path_after [] ((p.maker ++ missing p.insertion_mode) ++ closing (path_after [] (p.maker ++ missing p.insertion_mode)) p.comments_after_body.items p.comments_after_html.items) ≡ []
  pub built : tree ≡ (p.maker ++ missing p.insertion_mode) ++ closing (path_after [] (p.maker ++ missing p.insertion_mode)) p.comments_after_body.items p.comments_after_html.items → IsBuilt (step_over (state_of p)) p.maker tree

over_none : (p : Parts) → is_in_text (open_path p.insertion_mode p.path) ≡ false → None ≡ end_rule p.insertion_mode p.path → IsKept p → Over p.maker p.path p.drops_line_feed p.comments_after_body p.comments_after_html p.insertion_mode None
over_none p h none kept = subst (λ o. Over p.maker p.path p.drops_line_feed p.comments_after_body p.comments_after_html p.insertion_mode o) (sym none) (over p.maker p.path p.drops_line_feed p.comments_after_body p.comments_after_html p.insertion_mode h kept.fresh)

pub finishes : (p : Parts) (tree : List Event) → is_in_text (open_path p.insertion_mode p.path) ≡ false → None ≡ end_rule p.insertion_mode p.path → IsKept p → Begins p.path → Fits (step_over (state_of p)) p.maker → Finishes p tree
finishes p tree h none kept begins fits =
    let makes = over_makes p.insertion_mode p.path p.maker h none kept.fresh kept.walk in
    let o = over_none p h none kept in
    let end_events = closing p.path p.comments_after_body.items p.comments_after_html.items in
    let whole : HasRoom (p.maker ++ (missing p.insertion_mode ++ end_events)) = subst (λ s. Fits s p.maker) o.1 fits in
    let two : HasRoom ((p.maker ++ missing p.insertion_mode) ++ end_events) = subst HasRoom (sym (append_assoc p.maker (missing p.insertion_mode) end_events)) whole in
    let same : closing (path_after [] (p.maker ++ missing p.insertion_mode)) p.comments_after_body.items p.comments_after_html.items ≡ end_events = ap (λ x. closing x p.comments_after_body.items p.comments_after_html.items) makes.1 in
    record {
      made_room = HasRoom-front (p.maker ++ missing p.insertion_mode) end_events two;
      can = makes.0;
      open_still = rw makes.1 (some_path p.path begins);
      room = rw same two;
      closes = rw same (path_after-append [] (p.maker ++ missing p.insertion_mode) end_events ∙ ap (λ x. path_after x end_events) makes.1 ∙ closing_leads p.path p.comments_after_body.items p.comments_after_html.items);
      built = λ is. subst (λ s. IsBuilt s p.maker tree) (sym o.1)
          (is ∙ ap (λ es. (p.maker ++ missing p.insertion_mode) ++ es) same ∙ append_assoc p.maker (missing p.insertion_mode) end_events
          ∙ sym (grown_tags p.maker (missing p.insertion_mode ++ end_events) kept.walk.apart (no_text_append (missing p.insertion_mode) end_events makes.2 (closing_no_text p.path p.comments_after_body.items p.comments_after_html.items))));
    }
