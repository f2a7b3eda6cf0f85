-- What a start tag in the body does.
use Rattle.std.proofs.Common.{◌≡◌, ℕ, Bool, true, false, not, cond, ◌&&◌, ◌||◌, List, [], ◌∷◌, ◌++◌, map, length, Some, None, sym, ap, ◌∙◌, refl, arith, append_assoc, length-append, take, ◌≤◌, subst}
use Rattle.std.proofs.lemmas.Bool.{and_parts, and_from}
use Rattle.hm_base.specs.Walks.{Attribute, Event, start, end, Element, path_after}
use Rattle.hm_elements.specs.Names.{is_among, html, head, body}
use Rattle.hm_elements.specs.Tables.{is_void, is_root, roots, is_svg_name, svg_names, is_refused, holds_svg_text}
use Rattle.hm_elements.specs.Paths.{outer, current, is_in_svg, front, rest_after, is_closed_by_start_of}
use Rattle.hm_elements.proofs.TableTools.{eq_self, entry_passes}
use Rattle.hm_tree.specs.Trees.{HasRoom, end_of}
use Rattle.hm_open_elements.specs.Moves.{moves, refuses, element, start_moves, end_moves, is_void_open, without_void, svg_start_moves, html_start_moves, start_on, opens as svg_opens}
use Rattle.hm_open_elements.specs.Answers.{IsStarted, IsMoved, elements_of}
use Rattle.hm_open_elements.specs.Plans.{opens_as_svg}
use Rattle.hm_open_elements.specs.declared.moves.Moves as plain
use Rattle.hm_base.specs.declared.rules.Rule.{Rule}
use Rattle.hm_base.specs.declared.rules.Rule.TheVariants.{ForeignName, WrongParent, RefusedName, SecondRoot}
use Rattle.hm_open_elements.specs.declared.moves.SettleFault.{SettleFault}
use Rattle.hm_open_elements.specs.declared.moves.SettleFault.TheVariants as settle
use Rattle.hm_open_elements.proofs.Shapes.{IsStartOn, start_means}
use Rattle.hm_tree.specs.Rows.{is_text}
use Rattle.hm_construction_laws.specs.Steps.{Construction, Stepped, went, stops, stepped_after_events, end_event, start_event, starts, closes_at_once, drops_after, entered, after_moves, start_in_body, reach_body, under_html, under_head, under_body}
use Rattle.std.proofs.Math.Seq.{take-append_seam}
use Rattle.hm_open_elements.specs.declared.moves.Made.{Made}
use Rattle.hm_open_elements.specs.declared.moves.Made.TheVariants.{Nothing, Section, SectionAndRow, Row, Colgroup}
use Rattle.hm_insertion.specs.Building.{Fits, IsRefused, of_settle}
use Rattle.hm_insertion.specs.Inside.{insertion_mode_of, open_path, state_of, at_state, has_no_text, has_no_svg_root, missing, body_path, IsWalkTo, IsKept, IsDone, IsFresh, CanReach, IsOpened, IsEntered}
use Rattle.hm_insertion.specs.declared.insertion.BuilderMode.{BuilderMode}
use Rattle.hm_insertion.specs.declared.insertion.BuilderMode.TheVariants.{Initial, BeforeHtml, BeforeHead, InHead, AfterHead, InBody, AfterBody as PastBody, AfterHtml}
use Rattle.hm_insertion.specs.declared.parts.Parts.{Parts}
use Rattle.hm_insertion.proofs.Events.{path_after-append, walk_any, HasRoom-front, grown_tags}
use Rattle.hm_insertion.proofs.PlainTexts.{plain_state, done_by}
use Rattle.hm_insertion.proofs.Texts.{after_nothing}
use Rattle.hm_insertion.proofs.TextWalks.{missing_has_no_text}
use Rattle.hm_insertion.proofs.EndTags.{ends_are_tags, ends_lead, outer_no_root, moves_alone}

-- ---- All that is missing up to body is made

module _ (path : List Element) (inner last : List (List ℕ)) where
  pub reach_went : (ph : BuilderMode) (more : Construction → Stepped) → CanReach ph → reach_body (insertion_mode_of ph) more (at_state ph (open_path ph path) inner last) ≡ stepped_after_events (missing ph) (more (at_state InBody (body_path ph path) inner last))
  reach_went Initial more r = absurd r
  reach_went BeforeHtml more r = nested (more (at_state InBody under_body inner last))
    where
      nested : (s : Stepped) → stepped_after_events (start html false [] ∷ []) (stepped_after_events (start head false [] ∷ []) (stepped_after_events (end head false ∷ []) (stepped_after_events (start body false [] ∷ []) s))) ≡ stepped_after_events (missing BeforeHtml) s
      nested (went es st) = refl
      nested (stops rule n) = refl
  reach_went BeforeHead more r = nested (more (at_state InBody under_body inner last))
    where
      nested : (s : Stepped) → stepped_after_events (start head false [] ∷ []) (stepped_after_events (end head false ∷ []) (stepped_after_events (start body false [] ∷ []) s)) ≡ stepped_after_events (missing BeforeHead) s
      nested (went es st) = refl
      nested (stops rule n) = refl
  reach_went (InHead false None) more r = nested (more (at_state InBody under_body inner last))
    where
      nested : (s : Stepped) → stepped_after_events (end head false ∷ []) (stepped_after_events (start body false [] ∷ []) s) ≡ stepped_after_events (missing (InHead false None)) s
      nested (went es st) = refl
      nested (stops rule n) = refl
  reach_went (InHead false (Some text)) more r = absurd r
  reach_went (InHead true inside) more r = absurd r
  reach_went AfterHead more r = refl
  reach_went InBody more r = sym (after_nothing (more (at_state InBody path inner last)))
  reach_went PastBody more r = absurd r
  reach_went AfterHtml more r = absurd r

-- the walk then, and where it can be made
pub reach_walk : (ph : BuilderMode) (path : List Element) (w : List Event) → CanReach ph → IsWalkTo w (open_path ph path) → IsWalkTo (w ++ missing ph) (body_path ph path)
reach_walk Initial path w r walk = absurd r
reach_walk BeforeHtml path w r walk = walk_any w [] (missing BeforeHtml) under_body walk refl refl
reach_walk BeforeHead path w r walk = walk_any w under_html (missing BeforeHead) under_body walk refl refl
reach_walk (InHead false None) path w r walk = walk_any w under_head (missing (InHead false None)) under_body walk refl refl
reach_walk (InHead false (Some text)) path w r walk = absurd r
reach_walk (InHead true inside) path w r walk = absurd r
reach_walk AfterHead path w r walk = walk_any w under_html (missing AfterHead) under_body walk refl refl
reach_walk InBody path w r walk = walk_any w path [] path walk refl refl
reach_walk PastBody path w r walk = absurd r
reach_walk AfterHtml path w r walk = absurd r

pub reach_fresh : (p : Parts) → CanReach p.insertion_mode → IsKept p → (p.path ≡ body_path p.insertion_mode p.path) × (has_no_svg_root p.path ≡ true)
reach_fresh p r kept = by p.insertion_mode r kept.fresh
  where
    by : (ph : BuilderMode) → CanReach ph → IsFresh ph p.path → (p.path ≡ body_path ph p.path) × (has_no_svg_root p.path ≡ true)
    by Initial r' f = absurd r'
    by BeforeHtml r' f = (f, rw f refl)
    by BeforeHead r' f = (f, rw f refl)
    by (InHead false None) r' f = (f, rw f refl)
    by (InHead false (Some text)) r' f = absurd r'
    by (InHead true inside) r' f = absurd r'
    by AfterHead r' f = (f, rw f refl)
    by InBody r' f = (refl, f)
    by PastBody r' f = absurd r'
    by AfterHtml r' f = absurd r'

pub kept_in_body : (q : Parts) (path : List Element) → q.insertion_mode ≡ InBody → q.path ≡ path → IsWalkTo q.maker path → has_no_svg_root path ≡ true → IsKept q
kept_in_body q path insertion_mode is walk roots =
    let opens_here : open_path q.insertion_mode q.path ≡ path = ap (λ ph. open_path ph q.path) insertion_mode ∙ is in
    record {
      walk = subst (IsWalkTo q.maker) (sym opens_here) walk;
      fresh = subst (λ ph. IsFresh ph q.path) (sym insertion_mode) (subst (λ x. has_no_svg_root x ≡ true) (sym is) roots);
    }

-- ---- The element opens

pub made_has_no_text : (made : List Element) → has_no_text (starts made) ≡ true
made_has_no_text [] = refl
made_has_no_text (e ∷ made) = joined (starts made) (start_event e ∷ []) (made_has_no_text made) refl
  where
    joined : (es fs : List Event) → has_no_text es ≡ true → has_no_text fs ≡ true → has_no_text (es ++ fs) ≡ true
    joined [] fs h k = k
    joined (x ∷ es) fs h k =
        let parts = and_parts (not (is_text x)) (has_no_text es) h in
        and_from (not (is_text x)) (has_no_text (es ++ fs)) parts.0 (joined es fs parts.1 k)

pub no_text_append : (es fs : List Event) → has_no_text es ≡ true → has_no_text fs ≡ true → has_no_text (es ++ fs) ≡ true
no_text_append [] fs h k = k
no_text_append (x ∷ es) fs h k =
    let parts = and_parts (not (is_text x)) (has_no_text es) h in
    and_from (not (is_text x)) (has_no_text (es ++ fs)) parts.0 (no_text_append es fs parts.1 k)

pub starts_lead : (made path : List Element) → path_after path (starts made) ≡ made ++ path
starts_lead [] path = refl
starts_lead (e ∷ made) path = path_after-append path (starts made) (start_event e ∷ []) ∙ ap (λ x. e ∷ x) (starts_lead made path)

-- the elements close, are made, and one opens
pub moves_lead : (closed made left : List Element) (n : List ℕ) (foreign : Bool) (attributes : List Attribute) → path_after (closed ++ left) ((map end_event closed ++ starts made) ++ start n foreign attributes ∷ []) ≡ element n foreign ∷ (made ++ left)
moves_lead closed made left n foreign attributes =
    path_after-append (closed ++ left) (map end_event closed ++ starts made) (start n foreign attributes ∷ [])
    ∙ ap (λ x. element n foreign ∷ x) (path_after-append (closed ++ left) (map end_event closed) (starts made) ∙ ap (λ x. path_after x (starts made)) (ends_lead closed left) ∙ starts_lead made left)

-- the element that a start tag opens stays open, or closes at once
pub record Opens (n : List ℕ) (path after : List Element) (attributes : List Attribute) (slash : Bool) (answer : plain.Moves) : Type 0 where
  pub closed : List Element
  pub left : List Element
  pub splits : path ≡ closed ++ left
  pub closes : answer.closes ≡ length closed
  pub does_move : start_moves n path ≡ moves closed (elements_of answer.made) (element n (opens_as_svg n path) ∷ (elements_of answer.made ++ left))
  pub after_is : after ≡ without_void (element n (opens_as_svg n path) ∷ (elements_of answer.made ++ left))

pub opens : (n : List ℕ) (path after : List Element) (attributes : List Attribute) (slash : Bool) (answer : plain.Moves) → IsStarted (start_moves n path) answer after → Opens n path after attributes slash answer
opens n path after attributes slash answer started =
    let shape : IsStartOn n path started.moved.closed (elements_of answer.made) started.path = start_means n path started.moved.closed (elements_of answer.made) started.path started.moved.does_move in
    record {
      closed = started.moved.closed;
      left = shape.left;
      splits = shape.splits;
      closes = started.moved.closes;
      does_move = started.moved.does_move ∙ ap (moves started.moved.closed (elements_of answer.made)) shape.opens_on;
      after_is = started.after_is ∙ ap without_void shape.opens_on;
    }

-- ---- It closes at once, or stays open

either_way : (f v slash : Bool) → (not f && v) || (slash && f) ≡ cond f slash v
either_way true v true = refl
either_way true v false = refl
either_way false true slash = refl
either_way false false true = refl
either_way false false false = refl

module _ (n : List ℕ) (foreign : Bool) (p : Parts) (o : IsOpened n foreign p) where
  pub closes_by : (slash : Bool) → closes_at_once slash (path_after [] p.maker) ≡ cond foreign slash (is_void n)
  closes_by slash = ap (closes_at_once slash) o.leads ∙ either_way foreign (is_void n) slash

  ended_kept : (q : Parts) → q.insertion_mode ≡ InBody → q.path ≡ outer (path_after [] p.maker) → q.maker ≡ p.maker ++ end_of (path_after [] p.maker) → IsKept q
  ended_kept q insertion_mode path walk =
      let ends : end_of (path_after [] p.maker) ≡ end n foreign ∷ [] = ap end_of o.leads in
      let leads : path_after (path_after [] p.maker) (end n foreign ∷ []) ≡ outer (path_after [] p.maker) = ap (λ x. path_after x (end n foreign ∷ [])) o.leads in
      kept_in_body q (outer (path_after [] p.maker)) insertion_mode path
      (subst (λ v. IsWalkTo v (outer (path_after [] p.maker))) (sym (walk ∙ ap (λ es. p.maker ++ es) ends)) (walk_any p.maker (path_after [] p.maker) (end n foreign ∷ []) (outer (path_after [] p.maker)) o.walk refl leads))
      (outer_no_root (element n foreign ∷ []) (outer (path_after [] p.maker)) (subst (λ x. has_no_svg_root x ≡ true) o.leads o.roots))

  pub closed_entered : (slash : Bool) (q : Parts) → cond foreign slash (is_void n) ≡ true → q.insertion_mode ≡ InBody → q.path ≡ outer (path_after [] p.maker) → q.maker ≡ p.maker ++ end_of (path_after [] p.maker) → q.drops_line_feed ≡ false
      → q.comments_after_body ≡ p.comments_after_body → q.comments_after_html ≡ p.comments_after_html → IsEntered slash p q
  closed_entered slash q closes insertion_mode path walk drops inner last =
      let c : closes_at_once slash (path_after [] p.maker) ≡ true = closes_by slash ∙ closes in
      record {
        kept = ended_kept q insertion_mode path walk;
        insertion_mode = insertion_mode;
        walk = rw c walk;
        path = rw c path;
        drops = rw c drops;
        inner = inner;
        last = last;
      }

  -- an element of SVG isn't left out of the path, nor is one that isn't void
  pub path_here : not foreign && is_void n ≡ false → p.path ≡ path_after [] p.maker
  path_here h = o.path ∙ by (is_void_open (path_after [] p.maker)) (ap is_void_open o.leads ∙ h)
    where
      by : (b : Bool) → b ≡ false → cond b (outer (path_after [] p.maker)) (path_after [] p.maker) ≡ path_after [] p.maker
      by true k = absurd (cc)
      by false k = refl

  pub path_outer : not foreign && is_void n ≡ true → p.path ≡ outer (path_after [] p.maker)
  path_outer h = o.path ∙ by (is_void_open (path_after [] p.maker)) (ap is_void_open o.leads ∙ h)
    where
      by : (b : Bool) → b ≡ true → cond b (outer (path_after [] p.maker)) (path_after [] p.maker) ≡ outer (path_after [] p.maker)
      by true k = refl
      by false k = absurd (cc)

-- an element of SVG is ended by its own end tag
svg_ends : (n : List ℕ) (path rest : List Element) → path ≡ element n true ∷ rest → end_moves n path ≡ moves (element n true ∷ []) [] rest
svg_ends n path rest is =
    ap (end_moves n) is ∙ moves_alone n (element n true ∷ rest) refl ∙ (rw (eq_self n) refl)

pub svg_moved : (n : List ℕ) (path rest after : List Element) (answer : plain.Moves) → path ≡ element n true ∷ rest → IsMoved (end_moves n path) answer after → after ≡ rest
svg_moved n path rest after answer is moved =
    let same : moves moved.closed (elements_of answer.made) after ≡ moves (element n true ∷ []) [] rest = sym moved.does_move ∙ svg_ends n path rest is in
    cc

pub svg_not_refused : (n : List ℕ) (path rest : List Element) (fault : SettleFault) → path ≡ element n true ∷ rest → ((rule : Rule) → fault ≡ settle.Rule rule → end_moves n path ≡ refuses rule) → (fault ≡ settle.OutOfMemory → ⊥) → ⊥
svg_not_refused n path rest (settle.Rule rule) is means no_memory = let no : refuses rule ≡ moves (element n true ∷ []) [] rest = sym (means rule refl) ∙ svg_ends n path rest is in cc
svg_not_refused n path rest settle.OutOfMemory is means no_memory = no_memory refl

pub svg_no_root : (n : List ℕ) (path rest : List Element) → path ≡ element n true ∷ rest → has_no_svg_root path ≡ true → is_root n ≡ false
svg_no_root n path rest is roots = negate (is_root n) (and_parts (not (is_root n)) (has_no_svg_root rest) (subst (λ x. has_no_svg_root x ≡ true) is roots)).0
  where
    negate : (b : Bool) → not b ≡ true → b ≡ false
    negate true k = cc
    negate false k = refl

-- room for the parts of what a start tag makes
pub room_made : (w es fs gs : List Event) → HasRoom (w ++ ((es ++ fs) ++ gs)) → HasRoom ((w ++ es) ++ fs)
room_made w es fs gs room =
    subst HasRoom (sym (append_assoc w es fs)) (HasRoom-front (w ++ (es ++ fs)) gs (subst HasRoom (sym (append_assoc w (es ++ fs) gs)) room))

-- ---- The whole step

module _ (p : Parts) (n : List ℕ) (attributes : List Attribute) (slash : Bool) (r : CanReach p.insertion_mode) (kept : IsKept p) (all : p.drops_line_feed ≡ false) where
  pub body_step : reach_body (insertion_mode_of p.insertion_mode) (start_in_body n attributes slash) (state_of p) ≡ stepped_after_events (missing p.insertion_mode) (after_moves attributes slash (at_state InBody p.path p.comments_after_body.items p.comments_after_html.items) (start_moves n p.path))
  body_step =
      ap (reach_body (insertion_mode_of p.insertion_mode) (start_in_body n attributes slash)) (plain_state p all)
      ∙ reach_went p.path p.comments_after_body.items p.comments_after_html.items p.insertion_mode (start_in_body n attributes slash) r
      ∙ ap (λ x. stepped_after_events (missing p.insertion_mode) (start_in_body n attributes slash (at_state InBody x p.comments_after_body.items p.comments_after_html.items))) (sym (reach_fresh p r kept).0)

  pub body_refused : (rule : Rule) → start_moves n p.path ≡ refuses rule → reach_body (insertion_mode_of p.insertion_mode) (start_in_body n attributes slash) (state_of p) ≡ stops rule 0
  body_refused rule e = body_step ∙ (rw e refl)

entered_by : (n : List ℕ) (f : Bool) (attributes : List Attribute) (slash : Bool) (path rest : List Element) (inner last : List (List ℕ)) (c : Bool) → closes_at_once slash (element n f ∷ rest) ≡ c
    → entered attributes slash (at_state InBody path inner last) (element n f ∷ rest)
    ≡ went (start n f attributes ∷ cond c (end n f ∷ []) []) (record { insertion_mode = insertion_mode_of InBody; path = cond c rest (element n f ∷ rest); drops_line_feed = cond c false (drops_after (element n f ∷ rest)); comments_after_body = inner; comments_after_html = last })
entered_by n f attributes slash path rest inner last true e = rw e refl
entered_by n f attributes slash path rest inner last false e = rw e refl

end_no_text : (n : List ℕ) (f : Bool) (c : Bool) → has_no_text (cond c (end n f ∷ []) []) ≡ true
end_no_text n f true = refl
end_no_text n f false = refl

svg_name_no_root : (n : List ℕ) → is_svg_name n ≡ true → not (is_root n) ≡ true
unfolding is_svg_name svg_names is_root roots is_among
svg_name_no_root n h = entry_passes (λ m. not (is_root m)) n svg_names refl h

not_true : (b : Bool) → not b ≡ true → b ≡ false
not_true true h = cc
not_true false h = refl

-- html, head and body don't open
opened_no_root : (n : List ℕ) (path closed made after : List Element) → start_moves n path ≡ moves closed made after → is_root n ≡ false
unfolding start_moves
opened_no_root n path closed made after h = by (is_in_svg path) h
  where
    in_svg : (b : Bool) → is_svg_name n ≡ b → cond (not b) (refuses ForeignName) (cond (holds_svg_text (current path)) (refuses WrongParent) (svg_opens (element n true) [] [] path)) ≡ moves closed made after → is_root n ≡ false
    in_svg true e k = not_true (is_root n) (svg_name_no_root n e)
    in_svg false e k = absurd (cc)

    in_html : (a b : Bool) → is_root n ≡ b → cond a (refuses RefusedName) (cond b (refuses SecondRoot) (start_on n (front (is_closed_by_start_of n) path) (rest_after (is_closed_by_start_of n) path))) ≡ moves closed made after → is_root n ≡ false
    in_html true b e k = absurd (cc)
    in_html false true e k = absurd (cc)
    in_html false false e k = e

    by : (b : Bool) → cond b (svg_start_moves n path) (html_start_moves n path) ≡ moves closed made after → is_root n ≡ false
    by true k = in_svg (is_svg_name n) refl k
    by false k = in_html (is_refused n) (is_root n) refl k

pub opens_no_root : (n : List ℕ) (path closed made after : List Element) → start_moves n path ≡ moves closed made after → not (opens_as_svg n path && is_root n) ≡ true
opens_no_root n path closed made after does = rw (opened_no_root n path closed made after does) (by (opens_as_svg n path))
  where
    by : (b : Bool) → not (b && false) ≡ true
    by true = refl
    by false = refl

is_opened : (n : List ℕ) (f : Bool) (q : Parts) (there after : List Element) → q.insertion_mode ≡ InBody → q.path ≡ after → q.drops_line_feed ≡ false → IsWalkTo q.maker there → after ≡ without_void there → has_no_svg_root there ≡ true
    → there ≡ element n f ∷ outer there → IsOpened n f q
is_opened n f q there after insertion_mode path drops walk after_is roots leads = record {
  insertion_mode = insertion_mode;
  leads = walk.leads ∙ leads ∙ ap (λ y. element n f ∷ outer y) (sym walk.leads);
  walk = subst (IsWalkTo q.maker) (sym walk.leads) walk;
  path = path ∙ after_is ∙ ap without_void (sym walk.leads);
  roots = subst (λ y. has_no_svg_root y ≡ true) (sym walk.leads) roots;
  all = drops;
}

entered_state : (slash : Bool) (q new : Parts) (there : List Element) (inner last : List (List ℕ)) → path_after [] q.maker ≡ there → IsEntered slash q new → q.comments_after_body.items ≡ inner → q.comments_after_html.items ≡ last
    → state_of new ≡ record { insertion_mode = insertion_mode_of InBody; path = cond (closes_at_once slash there) (outer there) there; drops_line_feed = cond (closes_at_once slash there) false (drops_after there); comments_after_body = inner; comments_after_html = last }
entered_state slash q new there inner last leads e inner_is last_is =
    rw (e.insertion_mode, e.path, e.drops, e.inner, e.last, leads, inner_is, last_is) refl

-- what a start tag in the body does, in the order in which it is done
pub record BodyStart (p : Parts) (n : List ℕ) (attributes : List Attribute) (slash : Bool) (answer : plain.Moves) (after : List Element) : Type 0 where
  pub made_room : HasRoom (p.maker ++ missing p.insertion_mode)
  pub closes : answer.closes ≤ length (path_after [] (p.maker ++ missing p.insertion_mode))
  pub room : HasRoom ((p.maker ++ missing p.insertion_mode) ++ ((map end_event (take answer.closes (path_after [] (p.maker ++ missing p.insertion_mode))) ++ starts (elements_of answer.made)) ++ start n (opens_as_svg n p.path) attributes ∷ []))
  pub opened : (q : Parts) → q.insertion_mode ≡ InBody → q.path ≡ after → q.drops_line_feed ≡ false
      → q.maker ≡ (p.maker ++ missing p.insertion_mode) ++ ((map end_event (take answer.closes (path_after [] (p.maker ++ missing p.insertion_mode))) ++ starts (elements_of answer.made)) ++ start n (opens_as_svg n p.path) attributes ∷ []) → IsOpened n (opens_as_svg n p.path) q
  pub done : (q new : Parts) → q.comments_after_body.items ≡ p.comments_after_body.items → q.comments_after_html.items ≡ p.comments_after_html.items
      → q.maker ≡ (p.maker ++ missing p.insertion_mode) ++ ((map end_event (take answer.closes (path_after [] (p.maker ++ missing p.insertion_mode))) ++ starts (elements_of answer.made)) ++ start n (opens_as_svg n p.path) attributes ∷ [])
      → IsEntered slash q new → IsDone (reach_body (insertion_mode_of p.insertion_mode) (start_in_body n attributes slash) (state_of p)) p new

taken_front : (k : ℕ) (path closed left : List Element) → k ≡ length closed → path ≡ closed ++ left → take k path ≡ closed
taken_front k path closed left count is = rw (count, is) (take-append_seam closed left)

made_roots : (made : Made) (path : List Element) → has_no_svg_root path ≡ true → has_no_svg_root (elements_of made ++ path) ≡ true
made_roots Nothing path h = h
made_roots Section path h = h
made_roots SectionAndRow path h = h
made_roots Row path h = h
made_roots Colgroup path h = h

pub body_start : (p : Parts) (n : List ℕ) (attributes : List Attribute) (slash : Bool) (answer : plain.Moves) (after : List Element) → CanReach p.insertion_mode → IsKept p → p.drops_line_feed ≡ false → IsStarted (start_moves n p.path) answer after
    → not (opens_as_svg n p.path && is_root n) ≡ true → Fits (reach_body (insertion_mode_of p.insertion_mode) (start_in_body n attributes slash) (state_of p)) p.maker → BodyStart p n attributes slash answer after
body_start p n attributes slash answer after r kept all started root fits =
    let f = opens_as_svg n p.path in
    let m = missing p.insertion_mode in
    let inner = p.comments_after_body.items in
    let last = p.comments_after_html.items in
    let made = elements_of answer.made in
    let o : Opens n p.path after attributes slash answer = opens n p.path after attributes slash answer started in
    let fresh = reach_fresh p r kept in
    let walk : IsWalkTo (p.maker ++ m) p.path = subst (IsWalkTo (p.maker ++ m)) (sym fresh.0) (reach_walk p.insertion_mode p.path p.maker r kept.walk) in
    let taken : map end_event (take answer.closes (path_after [] (p.maker ++ m))) ≡ map end_event o.closed = ap (map end_event) (taken_front answer.closes (path_after [] (p.maker ++ m)) o.closed o.left o.closes (walk.leads ∙ o.splits)) in
    let es = map end_event o.closed ++ starts made in
    let one = start n f attributes ∷ [] in
    let there : List Element = element n f ∷ (made ++ o.left) in
    let c = closes_at_once slash there in
    let x : List Event = cond c (end n f ∷ []) [] in
    let st : Construction = record { insertion_mode = insertion_mode_of InBody; path = cond c (made ++ o.left) there; drops_line_feed = cond c false (drops_after there); comments_after_body = inner; comments_after_html = last } in
    let step : reach_body (insertion_mode_of p.insertion_mode) (start_in_body n attributes slash) (state_of p) ≡ went (m ++ (es ++ (start n f attributes ∷ x))) st =
    body_step p n attributes slash r kept all
    ∙ ap (λ y. stepped_after_events m (after_moves attributes slash (at_state InBody p.path inner last) y)) o.does_move
    ∙ ap (λ y. stepped_after_events m (stepped_after_events es y)) (entered_by n f attributes slash p.path (made ++ o.left) inner last c refl) in
    let whole : HasRoom (p.maker ++ (m ++ (es ++ (start n f attributes ∷ x)))) = subst (λ s. Fits s p.maker) step fits in
    let two : HasRoom ((p.maker ++ m) ++ (es ++ (start n f attributes ∷ x))) = subst HasRoom (sym (append_assoc p.maker m (es ++ (start n f attributes ∷ x)))) whole in
    let three : HasRoom (((p.maker ++ m) ++ (es ++ one)) ++ x) =
    subst HasRoom (ap (λ v. (p.maker ++ m) ++ v) (sym (append_assoc es one x)) ∙ sym (append_assoc (p.maker ++ m) (es ++ one) x)) two in
    let is_there : path_after p.path (es ++ one) ≡ there = ap (λ y. path_after y (es ++ one)) o.splits ∙ moves_lead o.closed made o.left n f attributes in
    let tags : has_no_text (es ++ one) ≡ true = no_text_append es one (no_text_append (map end_event o.closed) (starts made) (ends_are_tags o.closed) (made_has_no_text made)) refl in
    let walk_there : IsWalkTo ((p.maker ++ m) ++ (es ++ one)) there = walk_any (p.maker ++ m) p.path (es ++ one) there walk tags is_there in
    let opened_roots : has_no_svg_root there ≡ true = and_from (not (f && is_root n)) (has_no_svg_root (made ++ o.left)) root (made_roots answer.made o.left (outer_no_root o.closed o.left (subst (λ y. has_no_svg_root y ≡ true) o.splits fresh.1))) in
    record {
      made_room = HasRoom-front (p.maker ++ m) (es ++ (start n f attributes ∷ x)) two;
      closes = omega (arith, o.closes, ap length (walk.leads ∙ o.splits), length-append o.closed o.left);
      room = rw taken (HasRoom-front ((p.maker ++ m) ++ (es ++ one)) x three);
      opened = λ q insertion_mode path drops maker. is_opened n f q there after insertion_mode path drops
          (subst (λ v. IsWalkTo v there) (sym (maker ∙ ap (λ y. (p.maker ++ m) ++ ((y ++ starts made) ++ one)) taken)) walk_there) o.after_is opened_roots refl;
      done = λ q new inner_is last_is maker entered_is.
          let maker_is : q.maker ≡ (p.maker ++ m) ++ (es ++ one) = maker ∙ ap (λ y. (p.maker ++ m) ++ ((y ++ starts made) ++ one)) taken in
          let leads : path_after [] q.maker ≡ there = ap (path_after []) maker_is ∙ walk_there.leads in
          done_by (reach_body (insertion_mode_of p.insertion_mode) (start_in_body n attributes slash) (state_of p)) (m ++ (es ++ (start n f attributes ∷ x))) st p new step entered_is.kept
          (entered_state slash q new there inner last leads entered_is inner_is last_is)
          (entered_is.walk ∙ ap (λ y. q.maker ++ cond (closes_at_once slash y) (end_of y) []) leads ∙ ap (λ v. v ++ x) maker_is
          ∙ append_assoc (p.maker ++ m) (es ++ one) x ∙ ap (λ v. (p.maker ++ m) ++ v) (append_assoc es one x) ∙ append_assoc p.maker m (es ++ (start n f attributes ∷ x))
          ∙ sym (grown_tags p.maker (m ++ (es ++ (start n f attributes ∷ x))) kept.walk.apart (no_text_append m (es ++ (start n f attributes ∷ x)) (missing_has_no_text p.insertion_mode)
          (no_text_append es (start n f attributes ∷ x) (no_text_append (map end_event o.closed) (starts made) (ends_are_tags o.closed) (made_has_no_text made)) (end_no_text n f c)))));
    }

pub refused_start : (p : Parts) (n : List ℕ) (attributes : List Attribute) (slash : Bool) → CanReach p.insertion_mode → IsKept p → p.drops_line_feed ≡ false → (fault : SettleFault) → ((rule : Rule) → fault ≡ settle.Rule rule → start_moves n p.path ≡ refuses rule)
    → IsRefused (reach_body (insertion_mode_of p.insertion_mode) (start_in_body n attributes slash) (state_of p)) (of_settle fault)
refused_start p n attributes slash r kept all (settle.Rule rule) means = body_refused p n attributes slash r kept all rule (means rule refl)
refused_start p n attributes slash r kept all settle.OutOfMemory means = tt
