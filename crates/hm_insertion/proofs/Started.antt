-- Start tags by the insertion mode and by their name.
use Rattle.std.proofs.Common.{◌≡◌, ℕ, Bool, true, false, cond, ◌||◌, ◌⊎◌, inl, inr, List, Some, None, bytes_eq, sym, ap, ◌∙◌, refl}
use Rattle.std.proofs.lemmas.Bool.{false_from_ne_true, both_ways}
use Rattle.hm_base.specs.Walks.{Attribute, Element}
use Rattle.hm_base.specs.declared.rules.Rule.TheVariants.{NoDoctype, AfterBody, RefusedName, SecondRoot}
use Rattle.hm_elements.specs.Names.{is_among, html, head, body}
use Rattle.hm_elements.specs.Tables.{is_root, roots, is_refused}
use Rattle.hm_elements.specs.Paths.{is_in_svg, front, rest_after, is_closed_by_start_of}
use Rattle.hm_elements.proofs.TableTools.{entry_passes, same_bytes}
use Rattle.hm_open_elements.specs.Moves.{refuses, start_moves, svg_start_moves, start_on}
use Rattle.hm_tree.specs.Tokens as tokens
use Rattle.hm_construction_laws.specs.Steps.{Construction, Stepped, stops, step, step_start, html_start, start_in_body, start_inside, after_moves, open_html, open_head, open_body, reach_body}
use Rattle.hm_insertion.specs.BeforeBody.{IsBefore}
use Rattle.hm_insertion.specs.Inside.{insertion_mode_of, open_path, state_of}
use Rattle.hm_insertion.specs.declared.insertion.BuilderMode.{BuilderMode}
use Rattle.hm_insertion.specs.declared.insertion.BuilderMode.TheVariants.{Initial, BeforeHtml, BeforeHead, InHead, AfterHead, InBody, AfterBody as PastBody, AfterHtml}
use Rattle.hm_insertion.specs.declared.parts.Parts.{Parts}
use Rattle.hm_insertion.proofs.Dropped.{undropped}

-- a token is stepped from a state in which no line feed is dropped
pub start_step : (p : Parts) (n : List ℕ) (attributes : List Attribute) (slash : Bool) → step (state_of p) (tokens.start_tag n attributes slash) ≡ step_start n attributes slash (state_of (undropped p))
unfolding step
start_step p n attributes slash = refl

pub before_body : (ph : BuilderMode) → (ph ≡ Initial → ⊥) → (ph ≡ PastBody → ⊥) → (ph ≡ AfterHtml → ⊥) → (ph ≡ InBody → ⊥) → IsBefore ph
before_body Initial i b h y = i refl
before_body BeforeHtml i b h y = tt
before_body BeforeHead i b h y = tt
before_body (InHead here inside) i b h y = tt
before_body AfterHead i b h y = tt
before_body InBody i b h y = y refl
before_body PastBody i b h y = b refl
before_body AfterHtml i b h y = h refl

-- nothing of SVG is open before the body
pub no_svg_before : (ph : BuilderMode) (path : List Element) → IsBefore ph → is_in_svg (open_path ph path) ≡ false
no_svg_before Initial path b = absurd b
no_svg_before BeforeHtml path b = refl
no_svg_before BeforeHead path b = refl
no_svg_before (InHead true None) path b = refl
no_svg_before (InHead false None) path b = refl
no_svg_before (InHead here (Some text)) path b = refl
no_svg_before AfterHead path b = refl
no_svg_before InBody path b = absurd b
no_svg_before PastBody path b = absurd b
no_svg_before AfterHtml path b = absurd b

-- ---- By the name

root_named : (n m : List ℕ) → is_root m ≡ true → bytes_eq n m ≡ true → is_root n ≡ true
root_named n m root e = ap is_root (same_bytes n m e) ∙ root

html_root : (is_root html ≡ true) × (is_root head ≡ true) × (is_root body ≡ true)
unfolding is_root roots is_among
html_root = (refl, refl, refl)

module _ (n : List ℕ) (attributes : List Attribute) (slash : Bool) (st : Construction) where
  pub name_refused : is_refused n ≡ true → html_start n attributes slash st ≡ stops RefusedName 0
  name_refused h = rw h refl

  no_root_name : is_root n ≡ false → (bytes_eq n html ≡ false) × (bytes_eq n head ≡ false) × (bytes_eq n body ≡ false)
  no_root_name h = (
    false_from_ne_true (bytes_eq n html) (λ e. both_ways (is_root n) h (root_named n html html_root.0 e)),
    false_from_ne_true (bytes_eq n head) (λ e. both_ways (is_root n) h (root_named n head html_root.1 e)),
    false_from_ne_true (bytes_eq n body) (λ e. both_ways (is_root n) h (root_named n body html_root.2 e)),
  )

  pub name_inside : is_refused n ≡ false → is_root n ≡ false → html_start n attributes slash st ≡ start_inside st.insertion_mode n attributes slash st
  name_inside f r = let no = no_root_name r in rw (f, no.0, no.1, no.2) refl

  -- a slash plays no part at html, head and body
  pub name_root : is_root n ≡ true → html_start n attributes slash st ≡ html_start n attributes false st
  unfolding is_root roots
  name_root r = by (is_refused n) (bytes_eq n html) (bytes_eq n head) (bytes_eq n body) (entry_passes (λ m. bytes_eq m html || (bytes_eq m head || bytes_eq m body)) n roots refl r)
    where
      by : (a b c d : Bool) → b || (c || d) ≡ true → cond a (stops RefusedName 0) (cond b (open_html st.insertion_mode attributes st) (cond c (open_head st.insertion_mode attributes st) (cond d (open_body st.insertion_mode attributes st) (start_inside st.insertion_mode n attributes slash st))))
          ≡ cond a (stops RefusedName 0) (cond b (open_html st.insertion_mode attributes st) (cond c (open_head st.insertion_mode attributes st) (cond d (open_body st.insertion_mode attributes st) (start_inside st.insertion_mode n attributes false st))))
      by true b c d e = refl
      by false true c d e = refl
      by false false true d e = refl
      by false false false true e = refl
      by false false false false e = absurd (cc)

-- ---- By the insertion mode

-- in the body html, head and body don't open
in_body_name : (n : List ℕ) (attributes : List Attribute) (slash : Bool) (st : Construction) → is_in_svg st.path ≡ false → cond (is_refused n) (stops RefusedName 0) (cond (bytes_eq n html) (stops SecondRoot 0) (cond (bytes_eq n head) (stops SecondRoot 0) (cond (bytes_eq n body) (stops SecondRoot 0) (start_in_body n attributes slash st))))
    ≡ start_in_body n attributes slash st
unfolding start_moves
in_body_name n attributes slash st no_svg =
    by (is_refused n) (bytes_eq n html) (bytes_eq n head) (bytes_eq n body) (is_root n) refl (λ e. root_named n html html_root.0 e) (λ e. root_named n head html_root.1 e) (λ e. root_named n body html_root.2 e)
  where
    s : Bool → Bool → Stepped
    s a r = after_moves attributes slash st (cond (is_in_svg st.path) (svg_start_moves n st.path) (cond a (refuses RefusedName) (cond r (refuses SecondRoot) (start_on n (front (is_closed_by_start_of n) st.path) (rest_after (is_closed_by_start_of n) st.path)))))

    by : (a b c d r : Bool) → is_root n ≡ r → (b ≡ true → is_root n ≡ true) → (c ≡ true → is_root n ≡ true) → (d ≡ true → is_root n ≡ true)
        → cond a (stops RefusedName 0) (cond b (stops SecondRoot 0) (cond c (stops SecondRoot 0) (cond d (stops SecondRoot 0) (s a (is_root n))))) ≡ s a (is_root n)
    by true b c d r e hb hc hd = rw no_svg refl
    by false true c d r e hb hc hd = rw (no_svg, hb refl) refl
    by false false true d r e hb hc hd = rw (no_svg, hc refl) refl
    by false false false true r e hb hc hd = rw (no_svg, hd refl) refl
    by false false false false r e hb hc hd = refl

module _ (p : Parts) (n : List ℕ) (attributes : List Attribute) (slash : Bool) where
  pub start_initial : p.insertion_mode ≡ Initial → step_start n attributes slash (state_of p) ≡ stops NoDoctype 0
  unfolding step_start
  start_initial e = ap (λ ph. step_start n attributes slash (state_of (record p { insertion_mode = ph }))) e

  pub start_after_body : (p.insertion_mode ≡ PastBody) ⊎ (p.insertion_mode ≡ AfterHtml) → step_start n attributes slash (state_of p) ≡ stops AfterBody 0
  unfolding step_start
  start_after_body (inl e) = ap (λ ph. step_start n attributes slash (state_of (record p { insertion_mode = ph }))) e
  start_after_body (inr e) = ap (λ ph. step_start n attributes slash (state_of (record p { insertion_mode = ph }))) e

  pub start_before : IsBefore p.insertion_mode → step_start n attributes slash (state_of p) ≡ html_start n attributes slash (state_of p)
  unfolding step_start
  start_before b = by p.insertion_mode b (no_svg_before p.insertion_mode p.path b)
    where
      by : (ph : BuilderMode) → IsBefore ph → is_in_svg (open_path ph p.path) ≡ false → step_start n attributes slash (state_of (record p { insertion_mode = ph })) ≡ html_start n attributes slash (state_of (record p { insertion_mode = ph }))
      by Initial h k = absurd h
      by BeforeHtml h k = refl
      by BeforeHead h k = refl
      by (InHead here inside) h k = rw k refl
      by AfterHead h k = refl
      by InBody h k = absurd h
      by PastBody h k = absurd h
      by AfterHtml h k = absurd h

  pub start_here : p.insertion_mode ≡ InBody → step_start n attributes slash (state_of p) ≡ reach_body (insertion_mode_of p.insertion_mode) (start_in_body n attributes slash) (state_of p)
  unfolding step_start
  start_here e =
      ap (λ ph. step_start n attributes slash (state_of (record p { insertion_mode = ph }))) e
      ∙ by (is_in_svg p.path) refl
      ∙ sym (ap (λ ph. reach_body (insertion_mode_of ph) (start_in_body n attributes slash) (state_of (record p { insertion_mode = ph }))) e)
    where
      st : Construction
      st = state_of (record p { insertion_mode = InBody })

      by : (b : Bool) → is_in_svg p.path ≡ b → cond b (start_in_body n attributes slash st)
          (cond (is_refused n) (stops RefusedName 0) (cond (bytes_eq n html) (stops SecondRoot 0) (cond (bytes_eq n head) (stops SecondRoot 0) (cond (bytes_eq n body) (stops SecondRoot 0) (start_in_body n attributes slash st)))))
          ≡ start_in_body n attributes slash st
      by true k = refl
      by false k = in_body_name n attributes slash st k
