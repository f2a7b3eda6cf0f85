use Rattle.std.proofs.Common.{sym, subst}
use Rattle.hm_construction_laws.specs.Steps.{Stepped}
use Rattle.hm_insertion.specs.Building.{Fits}
use Rattle.hm_insertion.specs.Inside.{state_of, Takes}
use Rattle.hm_insertion.proofs.BeforeBody.{html_step, head_step, body_step}
use Rattle.hm_insertion.proofs.parts.Parts.open_root.Goals as goal

pub open_html-requires-clause-room : goal.open_html-requires-clause-room
open_html-requires-clause-room c =
    let p = c.args.self.now in
    subst (λ s. Fits s p.maker) (html_step c.args.name.now c.args.attrs.now (state_of p) c.in-html.is) c.requires.room

pub open_head-requires-clause-room : goal.open_head-requires-clause-room
open_head-requires-clause-room c =
    let p = c.args.self.now in
    subst (λ s. Fits s p.maker) (head_step c.args.name.now c.args.attrs.now (state_of p) c.in-head.is) c.requires.room

pub open_body-requires-clause-room : goal.open_body-requires-clause-room
open_body-requires-clause-room c =
    let p = c.args.self.now in
    subst (λ s. Fits s p.maker) (body_step c.args.name.now c.args.attrs.now (state_of p) c.requires.root c.in_default.not-html c.in_default.not-head) c.requires.room

pub returns-in-html : goal.returns-in-html
returns-in-html c =
    let p = c.args.self.now in
    subst (λ (s : Stepped). Takes s c.open_html.result p c.open_html.new.self) (sym (html_step c.args.name.now c.args.attrs.now (state_of p) c.in-html.is)) c.open_html.ensures

pub returns-in-head : goal.returns-in-head
returns-in-head c =
    let p = c.args.self.now in
    subst (λ (s : Stepped). Takes s c.open_head.result p c.open_head.new.self) (sym (head_step c.args.name.now c.args.attrs.now (state_of p) c.in-head.is)) c.open_head.ensures

pub returns-in_default : goal.returns-in_default
returns-in_default c =
    let p = c.args.self.now in
    subst (λ (s : Stepped). Takes s c.open_body.result p c.open_body.new.self)
    (sym (body_step c.args.name.now c.args.attrs.now (state_of p) c.requires.root c.in_default.not-html c.in_default.not-head)) c.open_body.ensures
