use Rattle.std.proofs.Common.{sym, subst}
use Rattle.hm_construction_laws.specs.Steps.{Stepped}
use Rattle.hm_insertion.specs.Building.{Fits}
use Rattle.hm_insertion.specs.Inside.{Takes}
use Rattle.hm_insertion.proofs.Started.{before_body, start_initial, start_after_body, start_before, start_here}
use Rattle.hm_insertion.proofs.parts.Parts.start_undropped.Goals as goal

pub start_in_body-requires-clause-room : goal.start_in_body-requires-clause-room
start_in_body-requires-clause-room c =
    let p = c.args.self.now in
    subst (λ s. Fits s p.maker) (start_here p c.args.name.now c.args.attrs.now c.args.slash c.in-InBody.is) c.requires.room

pub returns-in-InBody : goal.returns-in-InBody
returns-in-InBody c =
    let p = c.args.self.now in
    subst (λ (s : Stepped). Takes s c.start_in_body.result p c.start_in_body.new.self) (sym (start_here p c.args.name.now c.args.attrs.now c.args.slash c.in-InBody.is)) c.start_in_body.ensures

pub start_html-requires-clause-before : goal.start_html-requires-clause-before
start_html-requires-clause-before c =
    let d = c.in_default in
    before_body c.args.self.now.insertion_mode d.not-Initial d.not-AfterBody d.not-AfterHtml d.not-InBody

pub start_html-requires-clause-room : goal.start_html-requires-clause-room
start_html-requires-clause-room c =
    let p = c.args.self.now in
    let d = c.in_default in
    subst (λ s. Fits s p.maker) (start_before p c.args.name.now c.args.attrs.now c.args.slash (before_body p.insertion_mode d.not-Initial d.not-AfterBody d.not-AfterHtml d.not-InBody)) c.requires.room

pub returns-in_default : goal.returns-in_default
returns-in_default c =
    let p = c.args.self.now in
    let d = c.in_default in
    subst (λ (s : Stepped). Takes s c.start_html.result p c.start_html.new.self)
    (sym (start_before p c.args.name.now c.args.attrs.now c.args.slash (before_body p.insertion_mode d.not-Initial d.not-AfterBody d.not-AfterHtml d.not-InBody))) c.start_html.ensures

pub returns-in-Initial : goal.returns-in-Initial
returns-in-Initial c = rw c.from.ensures (start_initial c.args.self.now c.args.name.now c.args.attrs.now c.args.slash c.in-Initial.is)

pub returns-in-AfterBody : goal.returns-in-AfterBody
returns-in-AfterBody c = rw c.from-in-AfterBody.ensures (start_after_body c.args.self.now c.args.name.now c.args.attrs.now c.args.slash c.in-AfterBody.is)
