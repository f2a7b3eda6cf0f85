-- Start tags before the body.
use Rattle.std.proofs.Common.{◌≡◌, ℕ, Bool, true, false, cond, ◌||◌, List, [], ◌∷◌, ◌++◌, Option, Some, None, bytes_eq, sym, ap, subst, ◌∙◌, refl, append_assoc, codes, length, arith, ◌<◌, ◌⊎◌, inl, inr}
use Rattle.std.specs.declared.vec.Vec.{Vec}
use Rattle.std.specs.declared.alloc.Global.{Global}
use Rattle.std.proofs.lemmas.Bool.{false_from_ne_true}
use Rattle.hm_base.specs.Walks.{Attribute, Event, start, end, Element, path_after, pushes}
use Rattle.hm_base.specs.declared.rules.Rule.TheVariants.{SecondRoot, WrongParent}
use Rattle.hm_elements.specs.Names.{is_among, words, html, head, body, noscript}
use Rattle.hm_elements.specs.Tables.{is_metadata, is_void, voids, is_raw, raw_names, is_rcdata, rcdata_names, holds_text, is_root, roots, is_refused, refused_names}
use Rattle.hm_elements.specs.Nesting.{may_stand, children, noscript_children}
use Rattle.hm_elements.specs.Paths.{is_in_text, html_element}
use Rattle.hm_elements.proofs.TableTools.{same_bytes, entry_passes, second_of}
use Rattle.hm_tree.specs.Trees.{HasRoom, end_of}
use Rattle.hm_construction_laws.specs.Steps as steps
use Rattle.hm_construction_laws.specs.Steps.{Construction, Stepped, went, stops, stepped_after_events, moved, html_start, start_inside, reach_body, opened, closes_at_once, under_html, under_head, under_body}
use Rattle.hm_insertion.specs.Building.{Fits, grown}
use Rattle.hm_insertion.specs.BeforeBody.{TakesChildren, html_opened, head_opened, in_open_head, has_begun}
use Rattle.hm_insertion.specs.Inside.{insertion_mode_of, open_path, text_name, inside_head, under_noscript, state_of, has_no_text, head_ended, IsUnbegun, IsKept, IsDone}
use Rattle.hm_insertion.specs.declared.insertion.HeadText.{HeadText}
use Rattle.hm_insertion.specs.declared.insertion.HeadText.TheVariants.{Title, Style, Script}
use Rattle.hm_insertion.specs.declared.insertion.BuilderMode.{BuilderMode}
use Rattle.hm_insertion.specs.declared.insertion.BuilderMode.TheVariants.{Initial, BeforeHtml, BeforeHead, InHead, AfterHead, InBody, AfterBody as PastBody, AfterHtml}
use Rattle.hm_insertion.specs.declared.parts.Parts.{Parts}
use Rattle.hm_insertion.proofs.Events.{HasRoom-front, path_after-append, walk_any}
use Rattle.hm_insertion.proofs.Open.{false_true, no_text_in_head, true_false}
use Rattle.hm_insertion.proofs.Others.{any_done}
use Rattle.hm_insertion.proofs.Texts.{after_nothing}
use Rattle.hm_insertion.proofs.Unbegun.{unbegun_fresh, at_its_mode, kept_at}

-- ---- A step after events that were appended to the walk

pub done_then : (es : List Event) (s : Stepped) (old mid new : Parts) → mid.maker ≡ old.maker ++ es → IsDone s mid new → IsDone (stepped_after_events es s) old new
unfolding grown
done_then es (went fs st) old mid new is done = record {
  kept = done.kept;
  stepped = (done.stepped.0, done.stepped.1 ∙ ap (λ w. pushes (w ++ fs) []) is ∙ ap (λ w. pushes w []) (append_assoc old.maker es fs));
}
done_then es (stops rule n) old mid new is done = absurd done.stepped

pub room_then : (es : List Event) (n : List ℕ) (attributes : List Attribute) (st : Construction) (w : List Event) → Fits (stepped_after_events es (opened n attributes st)) w → HasRoom (w ++ es)
room_then es n attributes st w fits = by (closes_at_once false (html_element n ∷ st.path)) _ _ _ _ fits
  where
    by : (b : Bool) (fs gs : List Event) (s t : Construction) → Fits (stepped_after_events es (cond b (went fs s) (went gs t))) w → HasRoom (w ++ es)
    by true fs gs s t room = HasRoom-front (w ++ es) fs (subst HasRoom (sym (append_assoc w es fs)) room)
    by false fs gs s t room = HasRoom-front (w ++ es) gs (subst HasRoom (sym (append_assoc w es gs)) room)

pub not_named : (n m : List ℕ) → (n ≡ m → ⊥) → bytes_eq n m ≡ false
not_named n m h = false_from_ne_true (bytes_eq n m) (λ e. h (same_bytes n m e))

-- ---- html, head and body

html_first : (attributes : List Attribute) (st : Construction) → html_start html attributes false st ≡ steps.open_html st.insertion_mode attributes st
unfolding is_refused refused_names is_among
html_first attributes st = refl

head_first : (attributes : List Attribute) (st : Construction) → html_start head attributes false st ≡ steps.open_head st.insertion_mode attributes st
unfolding is_refused refused_names is_among
head_first attributes st = refl

body_first : (attributes : List Attribute) (st : Construction) → html_start body attributes false st ≡ steps.open_body st.insertion_mode attributes st
unfolding is_refused refused_names is_among
body_first attributes st = refl

one_of_roots : (n : List ℕ) → is_root n ≡ true → bytes_eq n html || (bytes_eq n head || bytes_eq n body) ≡ true
unfolding is_root roots
one_of_roots n h = entry_passes (λ x. bytes_eq x html || (bytes_eq x head || bytes_eq x body)) n roots refl h

module _ (n : List ℕ) (attributes : List Attribute) (st : Construction) where
  pub html_step : n ≡ html → html_start n attributes false st ≡ steps.open_html st.insertion_mode attributes st
  html_step is = ap (λ m. html_start m attributes false st) is ∙ html_first attributes st

  pub head_step : n ≡ head → html_start n attributes false st ≡ steps.open_head st.insertion_mode attributes st
  head_step is = ap (λ m. html_start m attributes false st) is ∙ head_first attributes st

  pub body_step : is_root n ≡ true → (n ≡ html → ⊥) → (n ≡ head → ⊥) → html_start n attributes false st ≡ steps.open_body st.insertion_mode attributes st
  body_step root h k =
      ap (λ m. html_start m attributes false st) (same_bytes n body (second_of (bytes_eq n head) (bytes_eq n body) (second_of (bytes_eq n html) (bytes_eq n head || bytes_eq n body) (one_of_roots n root) (not_named n html h)) (not_named n head k)))
      ∙ body_first attributes st

module _ (p : Parts) (attributes : List Attribute) (v : List Event) (kept : IsKept p) where
  pub html_done : p.insertion_mode ≡ BeforeHtml → v ≡ p.maker ++ start html false attributes ∷ [] → IsDone (steps.open_html (insertion_mode_of p.insertion_mode) attributes (state_of p)) p (record p { maker = v; insertion_mode = BeforeHead })
  html_done e is =
      at_its_mode (λ q. IsDone (steps.open_html (insertion_mode_of q.insertion_mode) attributes (state_of q)) q (record p { maker = v; insertion_mode = BeforeHead })) p BeforeHtml e
      (any_done _ (start html false attributes ∷ []) (moved (state_of p) steps.before_head under_html) (record p { insertion_mode = BeforeHtml }) (record p { maker = v; insertion_mode = BeforeHead }) refl (kept_at p BeforeHtml e kept) refl refl refl (kept_at p BeforeHtml e kept).fresh is)

  pub head_done_first : p.insertion_mode ≡ BeforeHtml → v ≡ (p.maker ++ html_opened p.insertion_mode) ++ start head false attributes ∷ [] → IsDone (steps.open_head (insertion_mode_of p.insertion_mode) attributes (state_of p)) p (record p { maker = v; insertion_mode = InHead false None })
  head_done_first e is =
      at_its_mode (λ q. IsDone (steps.open_head (insertion_mode_of q.insertion_mode) attributes (state_of q)) q (record p { maker = v; insertion_mode = InHead false None })) p BeforeHtml e
      (any_done _ (start html false [] ∷ start head false attributes ∷ []) (moved (state_of p) steps.in_head under_head) (record p { insertion_mode = BeforeHtml }) (record p { maker = v; insertion_mode = InHead false None }) refl (kept_at p BeforeHtml e kept) refl refl refl (kept_at p BeforeHtml e kept).fresh
      (is ∙ ap (λ ph. (p.maker ++ html_opened ph) ++ start head false attributes ∷ []) e ∙ append_assoc p.maker (html_opened BeforeHtml) (start head false attributes ∷ [])))

  pub head_done_next : p.insertion_mode ≡ BeforeHead → v ≡ (p.maker ++ html_opened p.insertion_mode) ++ start head false attributes ∷ [] → IsDone (steps.open_head (insertion_mode_of p.insertion_mode) attributes (state_of p)) p (record p { maker = v; insertion_mode = InHead false None })
  head_done_next e is =
      at_its_mode (λ q. IsDone (steps.open_head (insertion_mode_of q.insertion_mode) attributes (state_of q)) q (record p { maker = v; insertion_mode = InHead false None })) p BeforeHead e
      (any_done _ (start head false attributes ∷ []) (moved (state_of p) steps.in_head under_head) (record p { insertion_mode = BeforeHead }) (record p { maker = v; insertion_mode = InHead false None }) refl (kept_at p BeforeHead e kept) refl refl refl (kept_at p BeforeHead e kept).fresh
      (is ∙ ap (λ ph. (p.maker ++ html_opened ph) ++ start head false attributes ∷ []) e ∙ append_assoc p.maker (html_opened BeforeHead) (start head false attributes ∷ [])))

-- room for html where it is made
pub html_room : (p : Parts) (attributes : List Attribute) → (p.insertion_mode ≡ BeforeHtml) ⊎ (p.insertion_mode ≡ BeforeHead) → Fits (steps.open_head (insertion_mode_of p.insertion_mode) attributes (state_of p)) p.maker → HasRoom (p.maker ++ html_opened p.insertion_mode)
html_room p attributes which fits = by p.insertion_mode which fits
  where
    by : (ph : BuilderMode) → (ph ≡ BeforeHtml) ⊎ (ph ≡ BeforeHead) → Fits (steps.open_head (insertion_mode_of ph) attributes (state_of (record p { insertion_mode = ph }))) p.maker → HasRoom (p.maker ++ html_opened ph)
    by ph (inl e) f = subst (λ x. HasRoom (p.maker ++ html_opened x)) (sym e)
        (HasRoom-front (p.maker ++ start html false [] ∷ []) (start head false attributes ∷ []) (subst HasRoom (sym (append_assoc p.maker (start html false [] ∷ []) (start head false attributes ∷ [])))
        (subst (λ x. Fits (steps.open_head (insertion_mode_of x) attributes (state_of (record p { insertion_mode = x }))) p.maker) e f)))
    by ph (inr e) f = subst (λ x. HasRoom (p.maker ++ html_opened x)) (sym e)
        (HasRoom-front (p.maker ++ []) (start head false attributes ∷ []) (subst HasRoom (sym (append_assoc p.maker [] (start head false attributes ∷ [])))
        (subst (λ x. Fits (steps.open_head (insertion_mode_of x) attributes (state_of (record p { insertion_mode = x }))) p.maker) e f)))

module _ (w : List Event) (path : List Element) (drops : Bool) (inner last : Vec (List ℕ) Global) where
  abbrev pub parts : BuilderMode → Parts
  parts ph = record { maker = w; insertion_mode = ph; path = path; drops_line_feed = drops; comments_after_body = inner; comments_after_html = last }

  pub body_went : (attributes : List Attribute) (ph : BuilderMode) → IsUnbegun ph → steps.open_body (insertion_mode_of ph) attributes (state_of (parts ph)) ≡ went (head_ended ph ++ start body false attributes ∷ []) (moved (state_of (parts ph)) steps.in_body under_body)
  body_went attributes Initial u = absurd u
  body_went attributes BeforeHtml u = refl
  body_went attributes BeforeHead u = refl
  body_went attributes (InHead false None) u = refl
  body_went attributes (InHead false (Some text)) u = absurd u
  body_went attributes (InHead true inside) u = absurd u
  body_went attributes AfterHead u = refl
  body_went attributes InBody u = absurd u
  body_went attributes PastBody u = absurd u
  body_went attributes AfterHtml u = absurd u

  body_leads : (attributes : List Attribute) (ph : BuilderMode) → IsUnbegun ph → (path_after (open_path ph path) (head_ended ph ++ start body false attributes ∷ []) ≡ under_body) × (has_no_text (head_ended ph ++ start body false attributes ∷ []) ≡ true)
  body_leads attributes Initial u = absurd u
  body_leads attributes BeforeHtml u = (refl, refl)
  body_leads attributes BeforeHead u = (refl, refl)
  body_leads attributes (InHead false None) u = (refl, refl)
  body_leads attributes (InHead false (Some text)) u = absurd u
  body_leads attributes (InHead true inside) u = absurd u
  body_leads attributes AfterHead u = (refl, refl)
  body_leads attributes InBody u = absurd u
  body_leads attributes PastBody u = absurd u
  body_leads attributes AfterHtml u = absurd u

  pub body_done : (attributes : List Attribute) (ph : BuilderMode) (v : List Event) → IsUnbegun ph → IsKept (parts ph) → v ≡ (w ++ head_ended ph) ++ start body false attributes ∷ [] → IsDone (steps.open_body (insertion_mode_of ph) attributes (state_of (parts ph))) (parts ph) (record (parts InBody) { maker = v })
  body_done attributes ph v u kept is =
      let fresh : path ≡ under_body = unbegun_fresh w path drops inner last ph u kept in
      any_done _ (head_ended ph ++ start body false attributes ∷ []) (moved (state_of (parts ph)) steps.in_body under_body) (parts ph) (record (parts InBody) { maker = v })
      (body_went attributes ph u) kept (body_leads attributes ph u).1 (ap (λ x. moved (state_of (parts ph)) steps.in_body x) fresh) ((body_leads attributes ph u).0 ∙ sym fresh)
      (rw fresh refl) (is ∙ append_assoc w (head_ended ph) (start body false attributes ∷ []))

  pub body_refused : (attributes : List Attribute) (ph : BuilderMode) → has_begun ph ≡ true → is_in_text (open_path ph path) ≡ false → steps.open_body (insertion_mode_of ph) attributes (state_of (parts ph)) ≡ stops SecondRoot 0
  unfolding holds_text is_raw is_rcdata raw_names rcdata_names is_among
  body_refused attributes Initial h k = refl
  body_refused attributes BeforeHtml h k = absurd (false_true h)
  body_refused attributes BeforeHead h k = absurd (false_true h)
  body_refused attributes (InHead true None) h k = refl
  body_refused attributes (InHead true (Some text)) h k = absurd (no_text_in_head true text k)
  body_refused attributes (InHead false inside) h k = absurd (false_true h)
  body_refused attributes AfterHead h k = absurd (false_true h)
  body_refused attributes InBody h k = refl
  body_refused attributes PastBody h k = refl
  body_refused attributes AfterHtml h k = refl

  pub not_begun : (ph : BuilderMode) → has_begun ph ≡ false → is_in_text (open_path ph path) ≡ false → IsUnbegun ph
  not_begun Initial h k = absurd (true_false h)
  not_begun BeforeHtml h k = tt
  not_begun BeforeHead h k = tt
  not_begun (InHead true inside) h k = absurd (true_false h)
  not_begun (InHead false None) h k = tt
  not_begun (InHead false (Some text)) h k = absurd (no_text_in_head false text k)
  not_begun AfterHead h k = tt
  not_begun InBody h k = absurd (true_false h)
  not_begun PastBody h k = absurd (true_false h)
  not_begun AfterHtml h k = absurd (true_false h)

  -- ---- Children of head

  nested : (es fs : List Event) (s : Stepped) → stepped_after_events es (stepped_after_events fs s) ≡ stepped_after_events (es ++ fs) s
  nested es fs (went gs st) = ap (λ x. went x st) (sym (append_assoc es fs gs))
  nested es fs (stops rule n) = refl

  pub child_step : (n : List ℕ) (attributes : List Attribute) (slash : Bool) (ph : BuilderMode) → TakesChildren ph → may_stand n head (Some html) ≡ true → start_inside (insertion_mode_of ph) n attributes slash (state_of (parts ph)) ≡ stepped_after_events (head_opened ph) (opened n attributes (state_of (parts (InHead false None))))
  child_step n attributes slash Initial t stands = absurd t
  child_step n attributes slash BeforeHtml t stands = (rw stands refl) ∙ nested (start html false [] ∷ []) (start head false [] ∷ []) (opened n attributes (state_of (parts (InHead false None))))
  child_step n attributes slash BeforeHead t stands = rw stands refl
  child_step n attributes slash (InHead false None) t stands = (rw stands refl) ∙ sym (after_nothing (opened n attributes (state_of (parts (InHead false None)))))
  child_step n attributes slash (InHead false (Some text)) t stands = absurd t
  child_step n attributes slash (InHead true inside) t stands = absurd t
  child_step n attributes slash AfterHead t stands = absurd t
  child_step n attributes slash InBody t stands = absurd t
  child_step n attributes slash PastBody t stands = absurd t
  child_step n attributes slash AfterHtml t stands = absurd t

  pub no_child_step : (n : List ℕ) (attributes : List Attribute) (slash : Bool) (ph : BuilderMode) → TakesChildren ph → may_stand n head (Some html) ≡ false → is_metadata n ≡ false → start_inside (insertion_mode_of ph) n attributes slash (state_of (parts ph)) ≡ reach_body (insertion_mode_of ph) (steps.start_in_body n attributes slash) (state_of (parts ph))
  no_child_step n attributes slash Initial t stands other = absurd t
  no_child_step n attributes slash BeforeHtml t stands other = rw (stands, other) refl
  no_child_step n attributes slash BeforeHead t stands other = rw (stands, other) refl
  no_child_step n attributes slash (InHead false None) t stands other = rw (stands, other) refl
  no_child_step n attributes slash (InHead false (Some text)) t stands other = absurd t
  no_child_step n attributes slash (InHead true inside) t stands other = absurd t
  no_child_step n attributes slash AfterHead t stands other = absurd t
  no_child_step n attributes slash InBody t stands other = absurd t
  no_child_step n attributes slash PastBody t stands other = absurd t
  no_child_step n attributes slash AfterHtml t stands other = absurd t

  pub kept_open : (ph : BuilderMode) → TakesChildren ph → IsKept (parts ph) → IsKept (in_open_head (parts ph))
  kept_open Initial t kept = absurd t
  kept_open BeforeHtml t kept = record { walk = walk_any w [] (head_opened BeforeHtml) under_head kept.walk refl refl; fresh = kept.fresh }
  kept_open BeforeHead t kept = record { walk = walk_any w under_html (head_opened BeforeHead) under_head kept.walk refl refl; fresh = kept.fresh }
  kept_open (InHead false None) t kept = record { walk = walk_any w under_head [] under_head kept.walk refl refl; fresh = kept.fresh }
  kept_open (InHead false (Some text)) t kept = absurd t
  kept_open (InHead true inside) t kept = absurd t
  kept_open AfterHead t kept = absurd t
  kept_open InBody t kept = absurd t
  kept_open PastBody t kept = absurd t
  kept_open AfterHtml t kept = absurd t

-- ---- Which elements are children of head

metadata_stands : (n : List ℕ) → is_among n (words "base link meta script style title") ≡ true → may_stand n head (Some html) ≡ true
unfolding may_stand children is_among
metadata_stands n e = entry_passes (λ x. may_stand x head (Some html)) n (words "base link meta script style title") refl e

-- metadata stands in head
pub no_metadata : (n : List ℕ) → may_stand n head (Some html) ≡ false → is_metadata n ≡ false
unfolding is_metadata
no_metadata n h = false_from_ne_true (is_among n (words "base link meta script style title")) (λ e. both (may_stand n head (Some html)) h (metadata_stands n e))
  where
    both : (b : Bool) → b ≡ false → b ≡ true → ⊥
    both true k l = cc
    both false k l = cc

of_children : (n : List ℕ) → may_stand n head (Some html) ≡ true → is_among n (words "base link meta noscript script style title") ≡ true
unfolding may_stand children is_among
of_children n h = h

one_of_five : (n : List ℕ) → is_among n (words "base link meta noscript script style title") ≡ true → bytes_eq n noscript || (bytes_eq n (codes "title") || (bytes_eq n (codes "style") || (bytes_eq n (codes "script") || is_void n))) ≡ true
unfolding is_void voids is_among
one_of_five n e = entry_passes (λ x. bytes_eq x noscript || (bytes_eq x (codes "title") || (bytes_eq x (codes "style") || (bytes_eq x (codes "script") || is_void x)))) n (words "base link meta noscript script style title") refl e

-- the other children are void
pub void_child : (n : List ℕ) → may_stand n head (Some html) ≡ true → (n ≡ noscript → ⊥) → (n ≡ codes "title" → ⊥) → (n ≡ codes "style" → ⊥) → (n ≡ codes "script" → ⊥) → is_void n ≡ true
void_child n stands a b c d =
    second_of (bytes_eq n (codes "script")) (is_void n)
    (second_of (bytes_eq n (codes "style")) (bytes_eq n (codes "script") || is_void n)
    (second_of (bytes_eq n (codes "title")) (bytes_eq n (codes "style") || (bytes_eq n (codes "script") || is_void n))
    (second_of (bytes_eq n noscript) (bytes_eq n (codes "title") || (bytes_eq n (codes "style") || (bytes_eq n (codes "script") || is_void n)))
    (one_of_five n (of_children n stands)) (not_named n noscript a)) (not_named n (codes "title") b)) (not_named n (codes "style") c)) (not_named n (codes "script") d)

-- ---- A child opens in head, or in noscript in it

module _ (p : Parts) (attributes : List Attribute) (here : Bool) (at : p.insertion_mode ≡ InHead here None) (kept : IsKept p) (all : p.drops_line_feed ≡ false) where
  here_kept : IsKept (record p { insertion_mode = InHead here None })
  here_kept = kept_at p (InHead here None) at kept

  text_opened : (text : HeadText) → opened (text_name text) attributes (state_of (record p { insertion_mode = InHead here None })) ≡ went (start (text_name text) false attributes ∷ []) (record (state_of p) { insertion_mode = steps.in_head; path = inside_head here (Some text); drops_line_feed = false })
  unfolding is_void voids is_among
  text_opened Title = refl
  text_opened Style = refl
  text_opened Script = refl

  pub text_room : (text : HeadText) → Fits (opened (text_name text) attributes (state_of p)) p.maker → HasRoom (p.maker ++ start (text_name text) false attributes ∷ [])
  text_room text fits = subst (λ s. Fits s p.maker) (text_opened text) (subst (λ ph. Fits (opened (text_name text) attributes (state_of (record p { insertion_mode = ph }))) p.maker) at fits)

  pub text_done : (text : HeadText) (v : List Event) → v ≡ p.maker ++ start (text_name text) false attributes ∷ [] → IsDone (opened (text_name text) attributes (state_of p)) p (record p { maker = v; insertion_mode = InHead here (Some text) })
  text_done text v is =
      at_its_mode (λ q. IsDone (opened (text_name text) attributes (state_of q)) q (record p { maker = v; insertion_mode = InHead here (Some text) })) p (InHead here None) at
      (any_done _ (start (text_name text) false attributes ∷ []) (record (state_of p) { insertion_mode = steps.in_head; path = inside_head here (Some text); drops_line_feed = false }) (record p { insertion_mode = InHead here None }) (record p { maker = v; insertion_mode = InHead here (Some text) })
      (text_opened text) here_kept refl (ap (λ d. let st : Construction = record { insertion_mode = steps.in_head; path = inside_head here (Some text); drops_line_feed = d; comments_after_body = p.comments_after_body.items; comments_after_html = p.comments_after_html.items } in st) all) refl here_kept.fresh is)

  void_opened : (n : List ℕ) → is_void n ≡ true → opened n attributes (state_of (record p { insertion_mode = InHead here None })) ≡ went (start n false attributes ∷ end n false ∷ []) (state_of (record p { insertion_mode = InHead here None }))
  void_opened n void = rw void refl

  pub void_room : (n : List ℕ) → is_void n ≡ true → Fits (opened n attributes (state_of p)) p.maker → HasRoom (p.maker ++ start n false attributes ∷ [])
  void_room n void fits =
      HasRoom-front (p.maker ++ start n false attributes ∷ []) (end n false ∷ [])
      (subst HasRoom (sym (append_assoc p.maker (start n false attributes ∷ []) (end n false ∷ [])))
      (subst (λ s. Fits s p.maker) (void_opened n void) (subst (λ ph. Fits (opened n attributes (state_of (record p { insertion_mode = ph }))) p.maker) at fits)))

  pub void_done : (n : List ℕ) (u v : List Event) → is_void n ≡ true → u ≡ p.maker ++ start n false attributes ∷ [] → v ≡ u ++ end_of (path_after [] u) → IsDone (opened n attributes (state_of p)) p (record p { maker = v })
  void_done n u v void first is =
      at_its_mode (λ q. IsDone (opened n attributes (state_of q)) q (record q { maker = v })) p (InHead here None) at
      (any_done _ (start n false attributes ∷ end n false ∷ []) (state_of (record p { insertion_mode = InHead here None })) (record p { insertion_mode = InHead here None }) (record p { maker = v; insertion_mode = InHead here None })
      (void_opened n void) here_kept refl refl refl here_kept.fresh
      (is ∙ ap (λ x. x ++ end_of (path_after [] x)) first ∙ ap (λ x. (p.maker ++ start n false attributes ∷ []) ++ end_of x) (path_after-append [] p.maker (start n false attributes ∷ [])) ∙ append_assoc p.maker (start n false attributes ∷ []) (end n false ∷ [])))

  pub some_started : (n : List ℕ) (u : List Event) → u ≡ p.maker ++ start n false attributes ∷ [] → 0 < length (path_after [] u)
  some_started n u first = omega (arith, ap (λ x. length (path_after [] x)) first, ap length (path_after-append [] p.maker (start n false attributes ∷ [])))

module _ (p : Parts) (attributes : List Attribute) (at : p.insertion_mode ≡ InHead false None) (kept : IsKept p) (all : p.drops_line_feed ≡ false) where
  noscript_opened : opened noscript attributes (state_of (record p { insertion_mode = InHead false None })) ≡ went (start noscript false attributes ∷ []) (record (state_of p) { insertion_mode = steps.in_head; path = under_noscript true; drops_line_feed = false })
  unfolding is_void voids is_among
  noscript_opened = refl

  pub noscript_room : Fits (opened noscript attributes (state_of p)) p.maker → HasRoom (p.maker ++ start noscript false attributes ∷ [])
  noscript_room fits = subst (λ s. Fits s p.maker) noscript_opened (subst (λ ph. Fits (opened noscript attributes (state_of (record p { insertion_mode = ph }))) p.maker) at fits)

  pub noscript_done : (v : List Event) → v ≡ p.maker ++ start noscript false attributes ∷ [] → IsDone (opened noscript attributes (state_of p)) p (record p { maker = v; insertion_mode = InHead true None })
  noscript_done v is =
      at_its_mode (λ q. IsDone (opened noscript attributes (state_of q)) q (record p { maker = v; insertion_mode = InHead true None })) p (InHead false None) at
      (any_done _ (start noscript false attributes ∷ []) (record (state_of p) { insertion_mode = steps.in_head; path = under_noscript true; drops_line_feed = false }) (record p { insertion_mode = InHead false None }) (record p { maker = v; insertion_mode = InHead true None })
      noscript_opened (kept_at p (InHead false None) at kept) refl (ap (λ d. let st : Construction = record { insertion_mode = steps.in_head; path = under_noscript true; drops_line_feed = d; comments_after_body = p.comments_after_body.items; comments_after_html = p.comments_after_html.items } in st) all) refl (kept_at p (InHead false None) at kept).fresh is)

-- ---- In noscript in head

there : (n m : List ℕ) → n ≡ m → is_among m noscript_children ≡ true → is_among n noscript_children ≡ true
there n m is h = ap (λ x. is_among x noscript_children) is ∙ h

names_there : (is_among (codes "link") noscript_children ≡ true) × (is_among (codes "meta") noscript_children ≡ true) × (is_among (codes "style") noscript_children ≡ true)
unfolding noscript_children is_among
names_there = (refl, refl, refl)

names_void : (is_void (codes "link") ≡ true) × (is_void (codes "meta") ≡ true)
unfolding is_void voids is_among
names_void = (refl, refl)

one_of_three : (n : List ℕ) → is_among n noscript_children ≡ true → bytes_eq n (codes "link") || (bytes_eq n (codes "meta") || bytes_eq n (codes "style")) ≡ true
unfolding noscript_children
one_of_three n e = entry_passes (λ x. bytes_eq x (codes "link") || (bytes_eq x (codes "meta") || bytes_eq x (codes "style"))) n noscript_children refl e

pub link_or_meta : (n : List ℕ) → (n ≡ codes "link") ⊎ (n ≡ codes "meta") → (is_among n noscript_children ≡ true) × (is_void n ≡ true)
link_or_meta n (inl is) = (there n (codes "link") is names_there.0, ap is_void is ∙ names_void.0)
link_or_meta n (inr is) = (there n (codes "meta") is names_there.1, ap is_void is ∙ names_void.1)

pub style_there : (n : List ℕ) → n ≡ codes "style" → is_among n noscript_children ≡ true
style_there n is = there n (codes "style") is names_there.2

pub none_there : (n : List ℕ) → (n ≡ codes "link" → ⊥) → (n ≡ codes "meta" → ⊥) → (n ≡ codes "style" → ⊥) → is_among n noscript_children ≡ false
none_there n a b c =
    false_from_ne_true (is_among n noscript_children)
    (λ e. c (same_bytes n (codes "style") (second_of (bytes_eq n (codes "meta")) (bytes_eq n (codes "style")) (second_of (bytes_eq n (codes "link")) (bytes_eq n (codes "meta") || bytes_eq n (codes "style")) (one_of_three n e) (not_named n (codes "link") a)) (not_named n (codes "meta") b))))

module _ (n : List ℕ) (attributes : List Attribute) (st : Construction) where
  pub there_step : is_among n noscript_children ≡ true → steps.start_in_noscript n attributes st ≡ opened n attributes st
  there_step h = rw h refl

  pub other_there : is_among n noscript_children ≡ false → steps.start_in_noscript n attributes st ≡ stops WrongParent 0
  other_there h = rw h refl

-- ---- By insertion mode

pub noscript_alone : (ph : BuilderMode) (path : List Element) (here : Bool) (text : Option HeadText) → ph ≡ InHead here text → here ≡ true → is_in_text (open_path ph path) ≡ false → ph ≡ InHead true None
noscript_alone ph path here None is flag h = is ∙ ap (λ b. InHead b None) flag
noscript_alone ph path here (Some text) is flag h = absurd (no_text_in_head here text (sym (ap (λ x. is_in_text (open_path x path)) is) ∙ h))

pub head_alone : (ph : BuilderMode) (path : List Element) (here : Bool) (text : Option HeadText) → ph ≡ InHead here text → here ≡ false → is_in_text (open_path ph path) ≡ false → TakesChildren ph
head_alone ph path here None is flag h = subst TakesChildren (sym (is ∙ ap (λ b. InHead b None) flag)) tt
head_alone ph path here (Some text) is flag h = absurd (no_text_in_head here text (sym (ap (λ x. is_in_text (open_path x path)) is) ∙ h))

pub noscript_step : (p : Parts) (n : List ℕ) (attributes : List Attribute) (slash : Bool) → p.insertion_mode ≡ InHead true None → start_inside (insertion_mode_of p.insertion_mode) n attributes slash (state_of p) ≡ steps.start_in_noscript n attributes (state_of p)
noscript_step p n attributes slash e = at_its_mode (λ q. start_inside (insertion_mode_of q.insertion_mode) n attributes slash (state_of q) ≡ steps.start_in_noscript n attributes (state_of q)) p (InHead true None) e refl
