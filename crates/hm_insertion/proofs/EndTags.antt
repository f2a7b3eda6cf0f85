-- What an end tag in the body does.
use Rattle.std.proofs.Common.{◌≡◌, ℕ, ◌≤◌, Bool, true, false, not, cond, ◌&&◌, ◌||◌, ◌⊎◌, inl, inr, List, [], ◌∷◌, ◌++◌, map, length, take, reverse, Result, Ok, Err, IsErrAnd, bytes_eq, sym, ap, subst, ◌∙◌, refl, arith, length-append}
use Rattle.std.proofs.lemmas.Bool.{or_cases, and_parts, false_from_ne_true, both_ways}
use Rattle.std.proofs.Math.Seq.{take-append_seam}
use Rattle.std.proofs.lemmas.List.{reverse-append, reverse-reverse}
use Rattle.hm_base.specs.Walks.{Event, Element, path_after}
use Rattle.hm_base.specs.declared.rules.Rule.{Rule}
use Rattle.hm_base.specs.declared.rules.Rule.TheVariants.{StrayEnd, NotCurrent, AfterBody, Unclosed}
use Rattle.hm_elements.specs.Names.{is_among, html, head, body, script}
use Rattle.hm_elements.specs.Tables.{roots, is_root, is_raw, is_rcdata, raw_names, rcdata_names, holds_text}
use Rattle.hm_elements.specs.Nesting.{end_rows, is_ended_by}
use Rattle.hm_elements.specs.Paths.{html_element, is_in_svg, is_in_text, is_open, front, rest_after, is_closed_by_end_of}
use Rattle.hm_elements.proofs.TableTools.{entry_passes, eq_self, same_bytes}
use Rattle.hm_open_elements.specs.Moves.{Moves, moves, refuses, end_on, ends_nothing, end_moves}
use Rattle.hm_open_elements.specs.Answers as answers
use Rattle.hm_open_elements.specs.Answers.{IsMoved}
use Rattle.hm_open_elements.specs.declared.moves.Moves as plain
use Rattle.hm_open_elements.specs.declared.moves.SettleFault.{SettleFault}
use Rattle.hm_open_elements.specs.declared.moves.SettleFault.TheVariants as settle
use Rattle.hm_open_elements.proofs.Shapes.{IsEndOn, end_means}
use Rattle.hm_construction_laws.specs.Steps as steps
use Rattle.hm_construction_laws.specs.Steps.{Construction, Stepped, went, stops, step_end, end_current, after_end_moves, end_event}
use Rattle.hm_insertion.specs.Building.{IsRefused, of_settle}
use Rattle.hm_insertion.specs.Inside.{insertion_mode_of, open_path, state_of, has_no_text, has_no_svg_root, HasBodyPath, IsKept, IsDone, IsFresh, Takes}
use Rattle.hm_insertion.specs.declared.fault.BuildFault.{BuildFault}
use Rattle.hm_insertion.specs.declared.insertion.BuilderMode.{BuilderMode}
use Rattle.hm_insertion.specs.declared.insertion.BuilderMode.TheVariants.{Initial, BeforeHtml, BeforeHead, InHead, AfterHead, InBody, AfterBody as PastBody, AfterHtml}
use Rattle.hm_insertion.specs.declared.parts.Parts.{Parts}
use Rattle.hm_insertion.proofs.Others.{any_done, silent_done}

pub body_open : (ph : BuilderMode) (path : List Element) → HasBodyPath ph → open_path ph path ≡ path
body_open Initial path h = absurd h
body_open BeforeHtml path h = absurd h
body_open BeforeHead path h = absurd h
body_open (InHead here inside) path h = absurd h
body_open AfterHead path h = absurd h
body_open InBody path h = refl
body_open PastBody path h = refl
body_open AfterHtml path h = refl

pub body_fresh : (ph : BuilderMode) (path : List Element) → HasBodyPath ph → has_no_svg_root path ≡ true → IsFresh ph path
body_fresh Initial path h k = absurd h
body_fresh BeforeHtml path h k = absurd h
body_fresh BeforeHead path h k = absurd h
body_fresh (InHead here inside) path h k = absurd h
body_fresh AfterHead path h k = absurd h
body_fresh InBody path h k = k
body_fresh PastBody path h k = k
body_fresh AfterHtml path h k = k

pub no_svg_root : (ph : BuilderMode) (path : List Element) → HasBodyPath ph → IsFresh ph path → has_no_svg_root path ≡ true
no_svg_root Initial path h k = absurd h
no_svg_root BeforeHtml path h k = absurd h
no_svg_root BeforeHead path h k = absurd h
no_svg_root (InHead here inside) path h k = absurd h
no_svg_root AfterHead path h k = absurd h
no_svg_root InBody path h k = k
no_svg_root PastBody path h k = k
no_svg_root AfterHtml path h k = k

pub outer_no_root : (closed path : List Element) → has_no_svg_root (closed ++ path) ≡ true → has_no_svg_root path ≡ true
outer_no_root [] path h = h
outer_no_root (e ∷ closed) path h = outer_no_root closed path (and_parts (not (e.foreign && is_root e.name)) (has_no_svg_root (closed ++ path)) h).1

pub ends_lead : (closed path : List Element) → path_after (closed ++ path) (map end_event closed) ≡ path
ends_lead [] path = refl
ends_lead (e ∷ closed) path = ends_lead closed path

pub ends_are_tags : (closed : List Element) → has_no_text (map end_event closed) ≡ true
ends_are_tags [] = refl
ends_are_tags (e ∷ closed) = ends_are_tags closed

-- the elements that an end tag closes were ended
pub ends_done : (p : Parts) (n : List ℕ) (answer : plain.Moves) (after : List Element) (w : List Event) → HasBodyPath p.insertion_mode → IsKept p → IsMoved (end_moves n p.path) answer after → w ≡ p.maker ++ map end_event (take answer.closes (path_after [] p.maker))
    → IsDone (after_end_moves (state_of p) (end_moves n p.path)) p (record p { maker = w; path = after })
ends_done p n answer after w in_body kept moved is =
    let closed = moved.closed in
    let shape : IsEndOn p.path closed (answers.elements_of answer.made) after = end_means n p.path closed (answers.elements_of answer.made) after moved.does_move in
    let here : open_path p.insertion_mode p.path ≡ p.path = body_open p.insertion_mode p.path in_body in
    let there : open_path p.insertion_mode after ≡ after = body_open p.insertion_mode after in_body in
    let taken : take answer.closes (path_after [] p.maker) ≡ closed = rw (moved.closes, kept.walk.leads, here, shape.splits) (take-append_seam closed after) in
    any_done (after_end_moves (state_of p) (end_moves n p.path)) (map end_event closed) (record (state_of p) { path = after }) p (record p { maker = w; path = after })
    (ap (after_end_moves (state_of p)) moved.does_move) kept (ends_are_tags closed) (ap (λ x. record (state_of p) { path = x }) there)
    (ap (λ x. path_after x (map end_event closed)) (here ∙ shape.splits) ∙ ends_lead closed after ∙ sym there)
    (body_fresh p.insertion_mode after in_body (outer_no_root closed after (subst (λ x. has_no_svg_root x ≡ true) shape.splits (no_svg_root p.insertion_mode p.path in_body kept.fresh))))
    (is ∙ ap (λ x. p.maker ++ map end_event x) taken)

pub ends_within : (p : Parts) (n : List ℕ) (answer : plain.Moves) (after : List Element) → HasBodyPath p.insertion_mode → IsKept p → IsMoved (end_moves n p.path) answer after → answer.closes ≤ length (path_after [] p.maker)
ends_within p n answer after in_body kept moved =
    let shape : IsEndOn p.path moved.closed (answers.elements_of answer.made) after = end_means n p.path moved.closed (answers.elements_of answer.made) after moved.does_move in
    omega (arith, moved.closes, ap length (kept.walk.leads ∙ body_open p.insertion_mode p.path in_body ∙ shape.splits), length-append moved.closed after)

-- a fault of the open elements is the rule of the step
pub settle_refused : (fault : SettleFault) (does : Moves) (step : Moves → Stepped) → ((rule : Rule) → step (refuses rule) ≡ stops rule 0) → ((rule : Rule) → fault ≡ settle.Rule rule → does ≡ refuses rule) → IsRefused (step does) (of_settle fault)
settle_refused (settle.Rule rule) does step is means = ap step (means rule refl) ∙ is rule
settle_refused settle.OutOfMemory does step is means = tt

-- ---- The innermost element alone

text_no_root : (n : List ℕ) → holds_text n ≡ true → is_root n ≡ false
unfolding holds_text is_raw is_rcdata raw_names rcdata_names is_root roots is_among
text_no_root n h =
    elim (or_cases (is_raw n) (is_rcdata n) h) [
      | inl e ↦ negate (entry_passes (λ m. not (is_root m)) n (raw_names ++ script ∷ []) refl e)
      | inr e ↦ negate (entry_passes (λ m. not (is_root m)) n rcdata_names refl e)
    ]
  where
    negate : not (is_root n) ≡ true → is_root n ≡ false
    negate k = by (is_root n) k
      where
        by : (b : Bool) → not b ≡ true → b ≡ false
        by true k' = cc
        by false k' = refl

text_ends_alone : (n m : List ℕ) → holds_text n ≡ true → is_ended_by n m ≡ false
unfolding holds_text is_raw is_rcdata raw_names rcdata_names is_ended_by end_rows is_among
text_ends_alone n m h =
    elim (or_cases (is_raw n) (is_rcdata n) h) [
      | inl e ↦ negate (entry_passes (λ k. not (is_ended_by k m)) n (raw_names ++ script ∷ []) refl e)
      | inr e ↦ negate (entry_passes (λ k. not (is_ended_by k m)) n rcdata_names refl e)
    ]
  where
    negate : not (is_ended_by n m) ≡ true → is_ended_by n m ≡ false
    negate k = by (is_ended_by n m) k
      where
        by : (b : Bool) → not b ≡ true → b ≡ false
        by true k' = cc
        by false k' = refl

no_root_here : (f r : Bool) (t : Bool) → (t ≡ true → r ≡ false) → f || (not f && t) ≡ true → not (f && r) ≡ true → r ≡ false
no_root_here true true t text h k = cc
no_root_here true false t text h k = refl
no_root_here false r true text h k = text refl
no_root_here false r false text h k = cc

-- in SVG and in a text the innermost element isn't html or body
inner_no_root : (e : Element) (path : List Element) → is_in_svg (e ∷ path) || is_in_text (e ∷ path) ≡ true → has_no_svg_root (e ∷ path) ≡ true → is_root e.name ≡ false
inner_no_root e path h k =
    no_root_here e.foreign (is_root e.name) (holds_text e.name) (text_no_root e.name) h (and_parts (not (e.foreign && is_root e.name)) (has_no_svg_root path) k).0

open_append : (n : List ℕ) (xs ys : List Element) → (is_open n xs ≡ true) ⊎ (is_open n ys ≡ true) → is_open n (xs ++ ys) ≡ true
open_append n [] ys (inl e) = absurd (cc)
open_append n [] ys (inr e) = e
open_append n (x ∷ xs) ys (inl e) = by (bytes_eq x.name n) e (λ k. open_append n xs ys (inl k))
  where
    by : (b : Bool) → b || is_open n xs ≡ true → (is_open n xs ≡ true → is_open n (xs ++ ys) ≡ true) → b || is_open n (xs ++ ys) ≡ true
    by true k rest = refl
    by false k rest = rest k
open_append n (x ∷ xs) ys (inr e) = by (bytes_eq x.name n) (open_append n xs ys (inr e))
  where
    by : (b : Bool) → is_open n (xs ++ ys) ≡ true → b || is_open n (xs ++ ys) ≡ true
    by true rest = refl
    by false rest = rest

open_reverse : (n : List ℕ) (xs : List Element) → is_open n xs ≡ true → is_open n (reverse xs) ≡ true
open_reverse n [] h = absurd (cc)
open_reverse n (x ∷ xs) h =
    ap (is_open n) (reverse-append (x ∷ []) xs) ∙ by (bytes_eq x.name n) refl h (λ k. open_reverse n xs k)
  where
    by : (b : Bool) → bytes_eq x.name n ≡ b → b || is_open n xs ≡ true → (is_open n xs ≡ true → is_open n (reverse xs) ≡ true) → is_open n (reverse xs ++ x ∷ []) ≡ true
    by true e k rest = open_append n (reverse xs) (x ∷ []) (inr (rw e refl))
    by false e k rest = open_append n (reverse xs) (x ∷ []) (inl (rest k))

-- html and body are open in the body
pub roots_open : (path : List Element) → take 2 (reverse path) ≡ html_element html ∷ html_element body ∷ [] → (is_open html path ≡ true) × (is_open body path ≡ true)
roots_open path begins =
    let both = in_order (reverse path) begins in
    (ap (is_open html) (sym (reverse-reverse path)) ∙ open_reverse html (reverse path) both.0, ap (is_open body) (sym (reverse-reverse path)) ∙ open_reverse body (reverse path) both.1)
  where
    in_order : (xs : List Element) → take 2 xs ≡ html_element html ∷ html_element body ∷ [] → (is_open html xs ≡ true) × (is_open body xs ≡ true)
    in_order [] h = absurd (cc)
    in_order (x ∷ []) h = absurd (cc)
    in_order (x ∷ y ∷ xs) h =
        let first : x ≡ html_element html = cc in
        let second : y ≡ html_element body = cc in
        (rw (first) refl, rw (first, second) refl)

-- such an element isn't ended by the end tag of html or body
pub root_is_refused : (n : List ℕ) (st : Construction) (path : List Element) → is_root n ≡ true → is_in_svg path || is_in_text path ≡ true → has_no_svg_root path ≡ true → is_open n path ≡ true → end_current n st path ≡ stops NotCurrent 0
root_is_refused n st [] root h k is = absurd (cc)
root_is_refused n st (e ∷ path) root h k is = by (bytes_eq e.name n) other is
  where
    other : bytes_eq e.name n ≡ false
    other = false_from_ne_true (bytes_eq e.name n) (λ same. both_ways (is_root e.name) (inner_no_root e path h k) (ap is_root (same_bytes e.name n same) ∙ root))

    by : (b : Bool) → b ≡ false → b || is_open n path ≡ true → cond b (went (end_event e ∷ []) (record st { path = path })) (cond (b || is_open n path) (stops NotCurrent 0) (stops StrayEnd 0)) ≡ stops NotCurrent 0
    by true e' k' = absurd (cc)
    by false e' k' = rw k' refl

front_none : (n : List ℕ) (e : Element) (path : List Element) → is_closed_by_end_of n e ≡ false → (front (is_closed_by_end_of n) (e ∷ path) ≡ []) × (rest_after (is_closed_by_end_of n) (e ∷ path) ≡ e ∷ path)
front_none n e path h = (rw h refl, rw h refl)

text_alone : (n : List ℕ) (path : List Element) → is_in_text path ≡ true → end_on n (front (is_closed_by_end_of n) path) (rest_after (is_closed_by_end_of n) path) (is_open n path) ≡ end_on n [] path (is_open n path)
text_alone n [] h = absurd (cc)
text_alone n (e ∷ path) h =
    let text = and_parts (not e.foreign) (holds_text e.name) h in
    let stays : is_closed_by_end_of n e ≡ false = rw (text_ends_alone e.name n text.1) (no_and (not (bytes_eq e.name n))) in
    rw ((front_none n e path stays).0, (front_none n e path stays).1) refl
  where
    no_and : (b : Bool) → b && false ≡ false
    no_and true = refl
    no_and false = refl

-- in SVG and in a text no end is implied
pub moves_alone : (n : List ℕ) (path : List Element) → is_in_svg path || is_in_text path ≡ true → end_moves n path ≡ end_on n [] path (is_open n path)
unfolding end_moves
moves_alone n path h = by (is_in_svg path) h
  where
    by : (b : Bool) → b || is_in_text path ≡ true → cond b (end_on n [] path (is_open n path)) (end_on n (front (is_closed_by_end_of n) path) (rest_after (is_closed_by_end_of n) path) (is_open n path)) ≡ end_on n [] path (is_open n path)
    by true k = refl
    by false k = text_alone n path k

current_by_moves : (n : List ℕ) (st : Construction) (path : List Element) → after_end_moves st (end_on n [] path (is_open n path)) ≡ end_current n st path
current_by_moves n st [] = refl
current_by_moves n st (e ∷ path) = by (bytes_eq e.name n) (is_open n path)
  where
    by : (b c : Bool) → after_end_moves st (cond b (moves (e ∷ []) [] path) (ends_nothing (b || c))) ≡ cond b (went (end_event e ∷ []) (record st { path = path })) (cond (b || c) (stops NotCurrent 0) (stops StrayEnd 0))
    by true c = refl
    by false true = refl
    by false false = refl

-- such an element is ended by its own end tag
pub ends_current : (n : List ℕ) (st : Construction) (path : List Element) → is_in_svg path || is_in_text path ≡ true → after_end_moves st (end_moves n path) ≡ end_current n st path
ends_current n st path h = ap (after_end_moves st) (moves_alone n path h) ∙ current_by_moves n st path

-- a fault that refuses the step
pub takes_fault : {A : Type 0} (r : Result A BuildFault) (fault : BuildFault) (s : Stepped) (p new : Parts) → IsErrAnd r (λ e. e ≡ fault) → IsRefused s fault → Takes s r p new
takes_fault (Ok a) fault s p new h refused = absurd h
takes_fault (Err e) fault s p new h refused = subst (IsRefused s) (sym h) refused

-- ---- In the body

step_end_text : (n : List ℕ) (st : Construction) → is_in_text st.path ≡ true → step_end n st ≡ end_current n st st.path
unfolding step_end
step_end_text n st h = by (is_in_text st.path) h
  where
    by : (b : Bool) → b ≡ true → cond b (end_current n st st.path) (cond (steps.is_outside st.insertion_mode) (steps.end_outside st.insertion_mode n st) (cond (is_in_svg st.path || steps.is_in_noscript st.insertion_mode st.path) (end_current n st st.path) (steps.html_end n st))) ≡ end_current n st st.path
    by true k = refl
    by false k = absurd (cc)

-- the step after the tests of a text
abbrev end_no_text : List ℕ → Construction → Stepped
end_no_text n st = cond (steps.is_outside st.insertion_mode) (steps.end_outside st.insertion_mode n st) (cond (is_in_svg st.path || steps.is_in_noscript st.insertion_mode st.path) (end_current n st st.path) (steps.html_end n st))

step_end_no_text : (n : List ℕ) (st : Construction) → is_in_text st.path ≡ false → step_end n st ≡ end_no_text n st
unfolding step_end
step_end_no_text n st h = by (is_in_text st.path) h
  where
    by : (b : Bool) → b ≡ false → cond b (end_current n st st.path) (end_no_text n st) ≡ end_no_text n st
    by true k = absurd (cc)
    by false k = refl

-- the state in the insertion mode that the parts have
in_its_mode : (P : Construction → Type 0) (p : Parts) (ph : BuilderMode) → p.insertion_mode ≡ ph → P (state_of (record p { insertion_mode = ph })) → P (state_of p)
in_its_mode P p ph e h = subst (λ x. P (state_of (record p { insertion_mode = x }))) (sym e) h

module _ (p : Parts) (n : List ℕ) where
  pub end_in_text : HasBodyPath p.insertion_mode → is_in_text (open_path p.insertion_mode p.path) ≡ true → step_end n (state_of p) ≡ end_current n (state_of p) p.path
  end_in_text in_body h = step_end_text n (state_of p) h ∙ ap (end_current n (state_of p)) (body_open p.insertion_mode p.path in_body)

  pub end_past_body : p.insertion_mode ≡ PastBody → is_in_text p.path ≡ false → step_end n (state_of p) ≡ cond (bytes_eq n html) (went [] (record (state_of p) { insertion_mode = steps.after_html })) (stops AfterBody 0)
  end_past_body e h =
      in_its_mode (λ st. step_end n st ≡ cond (bytes_eq n html) (went [] (record st { insertion_mode = steps.after_html })) (stops AfterBody 0)) p PastBody e (step_end_no_text n (state_of (record p { insertion_mode = PastBody })) h)

  pub end_past_html : p.insertion_mode ≡ AfterHtml → is_in_text p.path ≡ false → step_end n (state_of p) ≡ stops AfterBody 0
  end_past_html e h = in_its_mode (λ st. step_end n st ≡ stops AfterBody 0) p AfterHtml e (step_end_no_text n (state_of (record p { insertion_mode = AfterHtml })) h)

  pub end_in_svg : p.insertion_mode ≡ InBody → is_in_text p.path ≡ false → is_in_svg p.path ≡ true → step_end n (state_of p) ≡ end_current n (state_of p) p.path
  end_in_svg e h svg =
      in_its_mode (λ st. step_end n st ≡ end_current n st p.path) p InBody e (step_end_no_text n (state_of (record p { insertion_mode = InBody })) h ∙ (rw svg refl))

  pub end_in_html : p.insertion_mode ≡ InBody → is_in_text p.path ≡ false → is_in_svg p.path ≡ false → step_end n (state_of p)
      ≡ cond (bytes_eq n head) (stops StrayEnd 0) (cond (bytes_eq n body) (steps.leave_body steps.after_body (state_of p)) (cond (bytes_eq n html) (steps.leave_body steps.after_html (state_of p)) (after_end_moves (state_of p) (end_moves n p.path))))
  end_in_html e h html_is =
      in_its_mode (λ st. step_end n st ≡ cond (bytes_eq n head) (stops StrayEnd 0) (cond (bytes_eq n body) (steps.leave_body steps.after_body st) (cond (bytes_eq n html) (steps.leave_body steps.after_html st) (after_end_moves st (end_moves n p.path))))) p InBody e
      (step_end_no_text n (state_of (record p { insertion_mode = InBody })) h ∙ (rw html_is refl))

-- the body is left
pub left_done : (p : Parts) (ph : BuilderMode) → p.insertion_mode ≡ InBody → HasBodyPath ph → IsKept p → steps.is_at_end p.path ≡ true → IsDone (steps.leave_body (insertion_mode_of ph) (state_of p)) p (record p { insertion_mode = ph })
left_done p ph here there kept at_end =
    let open_same : open_path p.insertion_mode p.path ≡ p.path = ap (λ x. open_path x p.path) here in
    let open_then : open_path ph p.path ≡ p.path = body_open ph p.path there in
    silent_done (steps.leave_body (insertion_mode_of ph) (state_of p)) (record (state_of p) { insertion_mode = insertion_mode_of ph }) p (record p { insertion_mode = ph })
    (ap (λ path. cond (steps.is_at_end path) (went [] (record (state_of p) { insertion_mode = insertion_mode_of ph })) (stops Unclosed 0)) open_same ∙ (rw at_end refl))
    kept (ap (λ path. record (state_of p) { insertion_mode = insertion_mode_of ph; path = path }) (open_then ∙ sym open_same)) (open_then ∙ sym open_same)
    (body_fresh ph p.path there (subst (λ x. IsFresh x p.path) here kept.fresh)) refl

pub unclosed : (p : Parts) (ph : BuilderMode) → p.insertion_mode ≡ InBody → steps.is_at_end p.path ≡ false → steps.leave_body (insertion_mode_of ph) (state_of p) ≡ stops Unclosed 0
unclosed p ph here at_end =
    ap (λ path. cond (steps.is_at_end path) (went [] (record (state_of p) { insertion_mode = insertion_mode_of ph })) (stops Unclosed 0)) (ap (λ x. open_path x p.path) here) ∙ (rw at_end refl)

pub past_body_done : (p : Parts) (n : List ℕ) → p.insertion_mode ≡ PastBody → is_in_text p.path ≡ false → bytes_eq n html ≡ true → IsKept p → IsDone (step_end n (state_of p)) p (record p { insertion_mode = AfterHtml })
past_body_done p n e h is kept =
    silent_done (step_end n (state_of p)) (record (state_of p) { insertion_mode = steps.after_html }) p (record p { insertion_mode = AfterHtml })
    (end_past_body p n e h ∙ (rw is refl)) kept (ap (λ ph. record (state_of p) { insertion_mode = steps.after_html; path = open_path ph p.path }) (sym e)) (ap (λ ph. open_path ph p.path) (sym e)) (subst (λ x. IsFresh x p.path) e kept.fresh) refl

pub unlike : (n m : List ℕ) → bytes_eq n m ≡ false → n ≡ m → ⊥
unlike n m differs is = both_ways (bytes_eq n m) differs (rw is (eq_self m))

module _ (p : Parts) (n : List ℕ) (here : p.insertion_mode ≡ InBody) (no_text : is_in_text p.path ≡ false) (no_svg : is_in_svg p.path ≡ false) where
  pub head_in_body : n ≡ head → step_end n (state_of p) ≡ stops StrayEnd 0
  head_in_body is = end_in_html p n here no_text no_svg ∙ (rw is refl)

  pub body_in_body : n ≡ body → step_end n (state_of p) ≡ steps.leave_body steps.after_body (state_of p)
  body_in_body is = end_in_html p n here no_text no_svg ∙ (rw is refl)

  pub html_in_body : n ≡ html → step_end n (state_of p) ≡ steps.leave_body steps.after_html (state_of p)
  html_in_body is = end_in_html p n here no_text no_svg ∙ (rw is refl)

  pub other_in_body : bytes_eq n head ≡ false → bytes_eq n body ≡ false → bytes_eq n html ≡ false → step_end n (state_of p) ≡ after_end_moves (state_of p) (end_moves n p.path)
  other_in_body h b w = end_in_html p n here no_text no_svg ∙ (rw (h, b, w) refl)
