use Rattle.std.proofs.Common.{◌≡◌, false, true, sym, ap, subst, ◌∙◌}
use Rattle.hm_base.specs.Walks.{with_text}
use Rattle.hm_construction_laws.specs.Steps.{step_bytes}
use Rattle.hm_elements.specs.Paths as paths
use Rattle.hm_tree.specs.Trees.{last_agrees}
use Rattle.hm_insertion.specs.Inside.{open_path, state_of, each_byte, kept_bytes, keeps_space, mixed_events, at_state, body_path}
use Rattle.hm_insertion.specs.declared.insertion.BuilderMode.TheVariants.{InBody}
use Rattle.hm_insertion.proofs.Dropped.{done_ahead}
use Rattle.hm_insertion.proofs.Texts.{not_raw}
use Rattle.hm_insertion.proofs.TextWalks.{HasRoom-text, HasRoom-only_blank}
use Rattle.hm_insertion.proofs.PlainTexts.{fits_by, is_zero, is_some, only_blank, text_step, body_step, blank_step, mixed_step, mixed_refused, mixed_went, text_done, body_done, blank_done, mixed_done}
use Rattle.hm_insertion.proofs.parts.Parts.plain_text.Goals as goal

pub text-requires-clause-room : goal.text-requires-clause-room
text-requires-clause-room c =
    let p = c.args.self.now in
    let s = c.args.text.now in
    let raw = paths.is_in_raw (open_path p.insertion_mode p.path) in
    rw c.is_in_raw-raw.ensures
    (HasRoom-text p.maker s raw (fits_by _ (each_byte s raw) (state_of p) p.maker (text_step p c.requires.all s (sym c.is_in_text.ensures ∙ c.if-is_in_text.true)) c.requires.room))

pub returns-then-is_in_text : goal.returns-then-is_in_text
returns-then-is_in_text c =
    let p = c.args.self.now in
    let s = c.args.text.now in
    done_ahead c.args.before (step_bytes s (state_of p)) p _
    (text_done p _ s c.requires.all (sym c.is_in_text.ensures ∙ c.if-is_in_text.true) c.requires.kept
    (ap (λ m. record p { maker = m }) (c.in_ok-text.ensures.ok ∙ ap (with_text p.maker s) c.is_in_raw-raw.ensures)))

pub text-requires-then-holds_any_text-clause-room : goal.text-requires-then-holds_any_text-clause-room
text-requires-then-holds_any_text-clause-room c =
    let p = c.args.self.now in
    let s = c.args.text.now in
    let held = c.if-holds_any_text.true in
    HasRoom-text p.maker s false
    (fits_by _ (each_byte s false) (state_of p) p.maker (body_step p c.requires.all s (c.holds_any_text.ensures.body held) (sym c.is_in_text.ensures ∙ c.if-is_in_text.false) (c.holds_any_text.ensures.plain held)) c.requires.room)

pub text-requires-then-holds_any_text-clause-same_raw : goal.text-requires-then-holds_any_text-clause-same_raw
text-requires-then-holds_any_text-clause-same_raw c =
    let p = c.args.self.now in
    let plain = sym c.is_in_text.ensures ∙ c.if-is_in_text.false in
    subst (λ raw. last_agrees p.maker raw ≡ true) (not_raw (open_path p.insertion_mode p.path) plain) c.requires.kept.walk.same_raw

pub returns-then-holds_any_text : goal.returns-then-holds_any_text
returns-then-holds_any_text c =
    let p = c.args.self.now in
    let s = c.args.text.now in
    let held = c.if-holds_any_text.true in
    done_ahead c.args.before (step_bytes s (state_of p)) p _
    (body_done p _ s c.requires.all (c.holds_any_text.ensures.body held) (sym c.is_in_text.ensures ∙ c.if-is_in_text.false) (c.holds_any_text.ensures.plain held) c.requires.kept
    (ap (λ m. record p { maker = m }) c.in_ok-text-2.ensures.ok))

pub keep_blank-requires-clause-room : goal.keep_blank-requires-clause-room
keep_blank-requires-clause-room c =
    let p = c.args.self.now in
    let plain = sym c.is_in_text.ensures ∙ c.if-is_in_text.false in
    let cut = c.split_blank.ensures in
    let all = only_blank _ _ _ cut (is_zero _ (sym c.is_empty.ensures ∙ c.if-is_empty.true)) in
    HasRoom-only_blank p.insertion_mode p.maker c.split_blank.result.0.now
    (fits_by _ (kept_bytes (keeps_space p.insertion_mode) c.split_blank.result.0.now false) (state_of p) p.maker (blank_step p c.requires.all c.split_blank.result.0.now plain cut.spaces) (rw all at c.requires.room))

pub keep_blank-requires-clause-same_raw : goal.keep_blank-requires-clause-same_raw
keep_blank-requires-clause-same_raw c =
    let p = c.args.self.now in
    let plain = sym c.is_in_text.ensures ∙ c.if-is_in_text.false in
    subst (λ raw. last_agrees p.maker raw ≡ true) (not_raw (open_path p.insertion_mode p.path) plain) c.requires.kept.walk.same_raw

pub returns-then-is_empty : goal.returns-then-is_empty
returns-then-is_empty c =
    let p = c.args.self.now in
    let plain = sym c.is_in_text.ensures ∙ c.if-is_in_text.false in
    let cut = c.split_blank.ensures in
    let all = only_blank _ _ _ cut (is_zero _ (sym c.is_empty.ensures ∙ c.if-is_empty.true)) in
    done_ahead c.args.before (step_bytes c.args.text.now (state_of p)) p _
    (rw all (blank_done p _ c.split_blank.result.0.now c.requires.all plain cut.spaces c.requires.kept (ap (λ m. record p { maker = m }) c.in_ok-keep_blank.ensures)))

pub returns-in-Some : goal.returns-in-Some
returns-in-Some c =
    let p = c.args.self.now in
    let plain = sym c.is_in_text.ensures ∙ c.if-is_in_text.false in
    let mixed = mixed_step p c.requires.all c.args.text.now c.split_blank.result.0.now c.split_blank.result.1.now c.split_blank.ensures (is_some _ (sym c.is_empty.ensures ∙ c.if-is_empty.false)) plain in
    mixed_refused p c.requires.all c.args.text.now c.split_blank.result.0.now c.split_blank.result.1.now c.in-Some.rule c.args.before mixed c.in-Some.ensures

pub mixed_text-requires-clause-room : goal.mixed_text-requires-clause-room
mixed_text-requires-clause-room c =
    let p = c.args.self.now in
    let plain = sym c.is_in_text.ensures ∙ c.if-is_in_text.false in
    let mixed = mixed_step p c.requires.all c.args.text.now c.split_blank.result.0.now c.split_blank.result.1.now c.split_blank.ensures (is_some _ (sym c.is_empty.ensures ∙ c.if-is_empty.false)) plain in
    fits_by _ (mixed_events p.insertion_mode c.split_blank.result.0.now c.split_blank.result.1.now) (at_state InBody (body_path p.insertion_mode p.path) p.comments_after_body.items p.comments_after_html.items) p.maker
    (mixed_went p c.requires.all c.args.text.now c.split_blank.result.0.now c.split_blank.result.1.now mixed (sym c.in_default.ensures)) c.requires.room

pub returns : goal.returns
returns c =
    let p = c.args.self.now in
    let plain = sym c.is_in_text.ensures ∙ c.if-is_in_text.false in
    let mixed = mixed_step p c.requires.all c.args.text.now c.split_blank.result.0.now c.split_blank.result.1.now c.split_blank.ensures (is_some _ (sym c.is_empty.ensures ∙ c.if-is_empty.false)) plain in
    done_ahead c.args.before (step_bytes c.args.text.now (state_of p)) p c.mixed_text.new.self
    (mixed_done p c.mixed_text.new.self c.args.text.now c.split_blank.result.0.now c.split_blank.result.1.now c.requires.all mixed c.in_default.ensures c.in_ok-mixed_text.ensures)
