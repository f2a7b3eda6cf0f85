use Rattle.std.proofs.Common.{◌≡◌, false, sym, ap, subst, ◌∙◌}
use Rattle.hm_elements.specs.Paths as paths
use Rattle.hm_construction_laws.specs.Steps.{Stepped}
use Rattle.hm_insertion.specs.Building.{Fits}
use Rattle.hm_insertion.specs.Inside.{open_path, Takes}
use Rattle.hm_insertion.proofs.EndTags.{end_in_text, end_past_html}
use Rattle.hm_insertion.proofs.parts.Parts.end_in_body.Goals as goal

pub end_inner-requires-clause-room : goal.end_inner-requires-clause-room
end_inner-requires-clause-room c =
    let p = c.args.self.now in
    subst (λ s. Fits s p.maker) (end_in_text p c.args.name.now c.requires.body (sym c.is_in_text.ensures ∙ c.if-is_in_text.true)) c.requires.room

pub returns-then-is_in_text : goal.returns-then-is_in_text
returns-then-is_in_text c =
    let p = c.args.self.now in
    subst (λ (s : Stepped). Takes s c.end_inner.result p c.end_inner.new.self) (sym (end_in_text p c.args.name.now c.requires.body (sym c.is_in_text.ensures ∙ c.if-is_in_text.true))) c.end_inner.ensures

pub returns-in-AfterHtml : goal.returns-in-AfterHtml
returns-in-AfterHtml c =
    let p = c.args.self.now in
    let no_text : paths.is_in_text p.path ≡ false = ap (λ ph. paths.is_in_text (open_path ph p.path)) (sym c.in-AfterHtml.is) ∙ sym c.is_in_text.ensures ∙ c.if-is_in_text.false in
    rw c.from.ensures (end_past_html p c.args.name.now c.in-AfterHtml.is no_text)
