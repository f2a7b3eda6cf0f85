-- What a step does with a text, by the parts of a builder.
use Rattle.std.proofs.Common.{◌≡◌, ℕ, ◌+◌, ◌<◌, ◌≤◌, ◌==◌, true, false, List, [], ◌∷◌, ◌++◌, length, take, get_or, Some, None, IsCharBoundary, IsUtf8, sym, ap, subst, ◌∙◌, refl, arith, append-nil}
use Rattle.std.proofs.lemmas.Bool.Decides.{nat_tests}
use Rattle.std.proofs.lemmas.List.{take_more}
use Rattle.std.proofs.lemmas.Str.{IsCharBoundary-after_ascii}
use Rattle.hm_base.specs.Bytes.{is_space, all_pass}
use Rattle.hm_base.specs.Walks.{Event, with_text}
use Rattle.hm_base.specs.declared.rules.Rule.{Rule}
use Rattle.hm_elements.specs.Paths.{is_in_raw, is_in_text, is_in_blank}
use Rattle.hm_tree.specs.Trees.{HasRoom}
use Rattle.hm_construction_laws.specs.Steps.{Construction, Stepped, went, stops, step_bytes, after_bytes}
use Rattle.hm_insertion.specs.Building.{Fits, IsStepped, grown}
use Rattle.hm_insertion.specs.Inside.{insertion_mode_of, open_path, state_of, building_of, at_state, body_path, each_byte, missing, text_rule, keeps_space, kept_bytes, mixed_events, with_blank, IsCut, IsKept, IsDone, IsPutAfter}
use Rattle.hm_insertion.specs.declared.insertion.BuilderMode.TheVariants.{InBody}
use Rattle.hm_insertion.specs.declared.parts.Parts.{Parts}
use Rattle.hm_insertion.proofs.Events.{grown_text, walk_text}
use Rattle.hm_insertion.proofs.Texts.{not_raw, text_bytes, only_blank_bytes, body_bytes, mixed_bytes, mixed_means}
use Rattle.hm_insertion.proofs.TextWalks.{grown_blank, walk_blank, walk_plain, all_pass-push}

pub plain_state : (p : Parts) → p.drops_line_feed ≡ false → state_of p ≡ at_state p.insertion_mode (open_path p.insertion_mode p.path) p.comments_after_body.items p.comments_after_html.items
plain_state p e = ap (λ b. let st : Construction = record { insertion_mode = insertion_mode_of p.insertion_mode; path = open_path p.insertion_mode p.path; drops_line_feed = b; comments_after_body = p.comments_after_body.items; comments_after_html = p.comments_after_html.items } in st) e

pub done_by : (s : Stepped) (es : List Event) (st : Construction) (old new : Parts) → s ≡ went es st → IsKept new → state_of new ≡ st → new.maker ≡ grown old.maker es → IsDone s old new
done_by s es st old new is kept state walk = record { kept = kept; stepped = subst (λ x. IsStepped x (building_of old) (building_of new)) (sym is) (state, walk) }

pub fits_by : (s : Stepped) (es : List Event) (st : Construction) (w : List Event) → s ≡ went es st → Fits s w → HasRoom (w ++ es)
fits_by s es st w is fits = subst (λ x. Fits x w) is fits

module _ (p : Parts) (all : p.drops_line_feed ≡ false) where
  pub text_step : (s : List ℕ) → is_in_text (open_path p.insertion_mode p.path) ≡ true → step_bytes s (state_of p) ≡ went (each_byte s (is_in_raw (open_path p.insertion_mode p.path))) (state_of p)
  text_step s h =
      subst (λ st. step_bytes s st ≡ went (each_byte s (is_in_raw (open_path p.insertion_mode p.path))) st) (sym (plain_state p all)) (text_bytes (open_path p.insertion_mode p.path) p.comments_after_body.items p.comments_after_html.items p.insertion_mode s h)

  pub body_step : (s : List ℕ) → p.insertion_mode ≡ InBody → is_in_text (open_path p.insertion_mode p.path) ≡ false → is_in_blank p.path ≡ false → step_bytes s (state_of p) ≡ went (each_byte s false) (state_of p)
  body_step s body h plain =
      let here : is_in_text p.path ≡ false = subst (λ m. is_in_text (open_path m p.path) ≡ false) body h in
      let st : state_of p ≡ at_state InBody p.path p.comments_after_body.items p.comments_after_html.items = plain_state p all ∙ ap (λ m. at_state m (open_path m p.path) p.comments_after_body.items p.comments_after_html.items) body in
      subst (λ st. step_bytes s st ≡ went (each_byte s false) st) (sym st)
      (body_bytes p.path p.comments_after_body.items p.comments_after_html.items s here plain ∙ ap (λ raw. went (each_byte s raw) (at_state InBody p.path p.comments_after_body.items p.comments_after_html.items)) (not_raw p.path here))

  pub blank_step : (s : List ℕ) → is_in_text (open_path p.insertion_mode p.path) ≡ false → all_pass is_space s ≡ true → step_bytes s (state_of p) ≡ went (kept_bytes (keeps_space p.insertion_mode) s false) (state_of p)
  blank_step s h spaces =
      subst (λ st. step_bytes s st ≡ went (kept_bytes (keeps_space p.insertion_mode) s false) st) (sym (plain_state p all))
      (subst (λ raw. step_bytes s (at_state p.insertion_mode (open_path p.insertion_mode p.path) p.comments_after_body.items p.comments_after_html.items) ≡ went (kept_bytes (keeps_space p.insertion_mode) s raw) (at_state p.insertion_mode (open_path p.insertion_mode p.path) p.comments_after_body.items p.comments_after_html.items)) (not_raw (open_path p.insertion_mode p.path) h)
      (only_blank_bytes (open_path p.insertion_mode p.path) p.comments_after_body.items p.comments_after_html.items p.insertion_mode s h spaces))

  abbrev pub Mixed : List ℕ → List ℕ → List ℕ → Type 0
  Mixed s blank rest = step_bytes s (state_of p) ≡ mixed_means (kept_bytes (keeps_space p.insertion_mode) blank false) (length blank) (missing p.insertion_mode) rest (at_state InBody (body_path p.insertion_mode p.path) p.comments_after_body.items p.comments_after_html.items) (text_rule p.insertion_mode p.path)

  pub mixed_step : (s blank rest : List ℕ) → IsCut s blank rest → (length rest ≡ 0 → ⊥) → is_in_text (open_path p.insertion_mode p.path) ≡ false → Mixed s blank rest
  mixed_step s blank [] cut some h = absurd (some refl)
  mixed_step s blank (c ∷ rest) cut some h =
      ap (λ x. step_bytes x (state_of p)) cut.whole
      ∙ ap (λ st. step_bytes (blank ++ c ∷ rest) st) (plain_state p all)
      ∙ mixed_bytes p.path p.comments_after_body.items p.comments_after_html.items p.insertion_mode blank c rest h cut.spaces cut.stops
      ∙ ap (λ raw. mixed_means (kept_bytes (keeps_space p.insertion_mode) blank raw) (length blank) (missing p.insertion_mode) (c ∷ rest) (at_state InBody (body_path p.insertion_mode p.path) p.comments_after_body.items p.comments_after_html.items) (text_rule p.insertion_mode p.path)) (not_raw (open_path p.insertion_mode p.path) h)

  pub mixed_refused : (s blank rest : List ℕ) (rule : Rule) (before : ℕ) → Mixed s blank rest → Some rule ≡ text_rule p.insertion_mode p.path → after_bytes before (step_bytes s (state_of p)) ≡ stops rule (before + length blank)
  mixed_refused s blank rest rule before is e =
      ap (after_bytes before) (is ∙ ap (mixed_means (kept_bytes (keeps_space p.insertion_mode) blank false) (length blank) (missing p.insertion_mode) rest (at_state InBody (body_path p.insertion_mode p.path) p.comments_after_body.items p.comments_after_html.items)) (sym e))

  pub mixed_went : (s blank rest : List ℕ) → Mixed s blank rest → text_rule p.insertion_mode p.path ≡ None → step_bytes s (state_of p) ≡ went (mixed_events p.insertion_mode blank rest) (at_state InBody (body_path p.insertion_mode p.path) p.comments_after_body.items p.comments_after_html.items)
  mixed_went s blank rest is e =
      is ∙ ap (mixed_means (kept_bytes (keeps_space p.insertion_mode) blank false) (length blank) (missing p.insertion_mode) rest (at_state InBody (body_path p.insertion_mode p.path) p.comments_after_body.items p.comments_after_html.items)) e

-- a text in title, textarea, style, iframe or script
pub text_done : (p new : Parts) (s : List ℕ) → p.drops_line_feed ≡ false → is_in_text (open_path p.insertion_mode p.path) ≡ true → IsKept p → new ≡ record p { maker = with_text p.maker s (is_in_raw (open_path p.insertion_mode p.path)) } → IsDone (step_bytes s (state_of p)) p new
text_done p new s all h kept is =
    rw is
    (done_by (step_bytes s (state_of p)) (each_byte s (is_in_raw (open_path p.insertion_mode p.path))) (state_of p) p (record p { maker = with_text p.maker s (is_in_raw (open_path p.insertion_mode p.path)) })
    (text_step p all s h) (record { walk = walk_text p.maker (open_path p.insertion_mode p.path) s kept.walk; fresh = kept.fresh }) refl (sym (grown_text p.maker s (is_in_raw (open_path p.insertion_mode p.path)) kept.walk.apart)))

-- a text in the body, where any may stand
pub body_done : (p new : Parts) (s : List ℕ) → p.drops_line_feed ≡ false → p.insertion_mode ≡ InBody → is_in_text (open_path p.insertion_mode p.path) ≡ false → is_in_blank p.path ≡ false → IsKept p → new ≡ record p { maker = with_text p.maker s false } → IsDone (step_bytes s (state_of p)) p new
body_done p new s all body h plain kept is =
    rw is
    (done_by (step_bytes s (state_of p)) (each_byte s false) (state_of p) p (record p { maker = with_text p.maker s false })
    (body_step p all s body h plain) (record { walk = walk_plain p.maker (open_path p.insertion_mode p.path) s (not_raw (open_path p.insertion_mode p.path) h) kept.walk; fresh = kept.fresh }) refl (sym (grown_text p.maker s false kept.walk.apart)))

-- whitespace
pub blank_done : (p new : Parts) (s : List ℕ) → p.drops_line_feed ≡ false → is_in_text (open_path p.insertion_mode p.path) ≡ false → all_pass is_space s ≡ true → IsKept p → new ≡ record p { maker = with_blank p.insertion_mode p.maker s } → IsDone (step_bytes s (state_of p)) p new
blank_done p new s all h spaces kept is =
    rw is
    (done_by (step_bytes s (state_of p)) (kept_bytes (keeps_space p.insertion_mode) s false) (state_of p) p (record p { maker = with_blank p.insertion_mode p.maker s })
    (blank_step p all s h spaces) (record { walk = walk_blank p.insertion_mode p.maker (open_path p.insertion_mode p.path) s (not_raw (open_path p.insertion_mode p.path) h) kept.walk; fresh = kept.fresh }) refl (sym (grown_blank p.insertion_mode p.maker s kept.walk.apart)))

pub only_blank : (s blank rest : List ℕ) → IsCut s blank rest → length rest ≡ 0 → s ≡ blank
only_blank s blank [] cut none = cut.whole ∙ append-nil blank
only_blank s blank (c ∷ rest) cut none = absurd (omega arith)

space_ascii : (c : ℕ) → is_space c ≡ true → c < 128
unfolding is_space
space_ascii c h = grind (arith, nat_tests)

pub is_zero : (n : ℕ) → (n == 0) ≡ true → n ≡ 0
is_zero n h = grind (arith, nat_tests)

pub is_some : (n : ℕ) → (n == 0) ≡ false → n ≡ 0 → ⊥
is_some n h e = absurd (grind (arith, nat_tests))

-- whitespace and a text after it that was put into the body
pub mixed_done : (p new : Parts) (s blank rest : List ℕ) (all : p.drops_line_feed ≡ false) → Mixed p all s blank rest → None ≡ text_rule p.insertion_mode p.path → IsPutAfter (mixed_events p.insertion_mode blank rest) p new → IsDone (step_bytes s (state_of p)) p new
mixed_done p new s blank rest all mixed none put =
    done_by (step_bytes s (state_of p)) (mixed_events p.insertion_mode blank rest) (at_state InBody (body_path p.insertion_mode p.path) p.comments_after_body.items p.comments_after_html.items) p new
    (mixed_went p all s blank rest mixed (sym none)) put.kept same put.walk
  where
    same : state_of new ≡ at_state InBody (body_path p.insertion_mode p.path) p.comments_after_body.items p.comments_after_html.items
    same = rw (put.insertion_mode, put.path, put.drops, all, put.inner, put.last) refl

-- one more byte of whitespace
pub one_more_space : (s : List ℕ) (at : ℕ) → IsUtf8 s → at < length s → is_space (get_or s at 0) ≡ true → (at ≤ length s) × (all_pass is_space (take at s) ≡ true) × (IsCharBoundary s at)
    → (at + 1 ≤ length s) × (all_pass is_space (take (at + 1) s) ≡ true) × (IsCharBoundary s (at + 1))
one_more_space s at utf8 inside space before =
    (omega arith, ap (all_pass is_space) (take_more s at 0 inside) ∙ all_pass-push is_space (take at s) (get_or s at 0) before.1 space, IsCharBoundary-after_ascii s at utf8 inside (space_ascii (get_or s at 0) space))
