use Rattle.std.proofs.Common.{sym, ap, subst, ◌∙◌}
use Rattle.hm_construction_laws.specs.Steps.{opened}
use Rattle.hm_insertion.specs.Building.{Fits}
use Rattle.hm_insertion.specs.Inside.{state_of, IsDone}
use Rattle.hm_insertion.proofs.BeforeBody.{link_or_meta, style_there, none_there, there_step, other_there}
use Rattle.hm_insertion.proofs.parts.Parts.start_in_noscript.Goals as goal

pub start_text-requires-clause-room : goal.start_text-requires-clause-room
start_text-requires-clause-room c =
    let p = c.args.self.now in
    let n = c.args.name.now in
    let same = there_step n c.args.attrs.now (state_of p) (style_there n c.in-style.is) ∙ ap (λ m. opened m c.args.attrs.now (state_of p)) c.in-style.is in
    subst (λ s. Fits s p.maker) same c.requires.room

pub returns-in_default : goal.returns-in_default
returns-in_default c =
    rw c.from.ensures (other_there c.args.name.now c.args.attrs.now (state_of c.args.self.now) (none_there c.args.name.now c.in_default.not-link c.in_default.not-meta c.in_default.not-style))

pub start_void-requires-clause-void : goal.start_void-requires-clause-void
start_void-requires-clause-void c = (link_or_meta c.args.name.now c.in-link.is).1

pub start_void-requires-clause-room : goal.start_void-requires-clause-room
start_void-requires-clause-room c =
    let p = c.args.self.now in
    let n = c.args.name.now in
    subst (λ s. Fits s p.maker) (there_step n c.args.attrs.now (state_of p) (link_or_meta n c.in-link.is).0) c.requires.room

pub returns-in_ok-start_text-in-style : goal.returns-in_ok-start_text-in-style
returns-in_ok-start_text-in-style c =
    let p = c.args.self.now in
    let n = c.args.name.now in
    let same = there_step n c.args.attrs.now (state_of p) (style_there n c.in-style.is) ∙ ap (λ m. opened m c.args.attrs.now (state_of p)) c.in-style.is in
    subst (λ s. IsDone s p c.start_text.new.self) (sym same) c.in_ok-start_text-in-style.ensures

pub returns-in_ok-start_void-in-link : goal.returns-in_ok-start_void-in-link
returns-in_ok-start_void-in-link c =
    let p = c.args.self.now in
    let n = c.args.name.now in
    subst (λ s. IsDone s p c.start_void.new.self) (sym (there_step n c.args.attrs.now (state_of p) (link_or_meta n c.in-link.is).0)) c.in_ok-start_void-in-link.ensures
