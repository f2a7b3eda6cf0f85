use Rattle.std.proofs.Common.{◌≡◌, sym, subst, ◌∙◌}
use Rattle.hm_elements.specs.Names.{body, head, html}
use Rattle.hm_elements.proofs.TableTools.{same_bytes}
use Rattle.hm_construction_laws.specs.Steps.{Stepped}
use Rattle.hm_insertion.specs.Building.{Fits}
use Rattle.hm_insertion.specs.Inside.{Takes}
use Rattle.hm_insertion.proofs.EndTags.{unlike, end_in_svg, head_in_body, body_in_body, html_in_body, other_in_body}
use Rattle.hm_insertion.proofs.parts.Parts.end_open.Goals as goal

pub end_inner-requires-clause-room : goal.end_inner-requires-clause-room
end_inner-requires-clause-room c =
    let p = c.args.self.now in
    subst (λ s. Fits s p.maker) (end_in_svg p c.args.name.now c.requires.insertion_mode c.requires.no_text (sym c.is_in_svg.ensures ∙ c.if-is_in_svg.true)) c.requires.room

pub returns-then-is_in_svg : goal.returns-then-is_in_svg
returns-then-is_in_svg c =
    let p = c.args.self.now in
    subst (λ (s : Stepped). Takes s c.end_inner.result p c.end_inner.new.self) (sym (end_in_svg p c.args.name.now c.requires.insertion_mode c.requires.no_text (sym c.is_in_svg.ensures ∙ c.if-is_in_svg.true))) c.end_inner.ensures

pub returns-then-same_name : goal.returns-then-same_name
returns-then-same_name c =
    let p = c.args.self.now in
    let n = c.args.name.now in
    let is : n ≡ body = same_bytes n body (sym c.same_name.ensures ∙ c.if-same_name.true) in
    let no_svg = sym c.is_in_svg.ensures ∙ c.if-is_in_svg.false in
    subst (λ (s : Stepped). Takes s c.leave_body.result p c.leave_body.new.self) (sym (body_in_body p n c.requires.insertion_mode c.requires.no_text no_svg is)) c.leave_body.ensures

pub returns-then-same_name-2 : goal.returns-then-same_name-2
returns-then-same_name-2 c =
    let p = c.args.self.now in
    let n = c.args.name.now in
    let is : n ≡ html = same_bytes n html (sym c.same_name-2.ensures ∙ c.if-same_name-2.true) in
    let no_svg = sym c.is_in_svg.ensures ∙ c.if-is_in_svg.false in
    subst (λ (s : Stepped). Takes s c.leave_body-then-same_name-2.result p c.leave_body-then-same_name-2.new.self) (sym (html_in_body p n c.requires.insertion_mode c.requires.no_text no_svg is)) c.leave_body-then-same_name-2.ensures

pub returns-then-same_name-3 : goal.returns-then-same_name-3
returns-then-same_name-3 c =
    let n = c.args.name.now in
    let is : n ≡ head = same_bytes n head (sym c.same_name-3.ensures ∙ c.if-same_name-3.true) in
    let no_svg = sym c.is_in_svg.ensures ∙ c.if-is_in_svg.false in
    rw c.from.ensures (head_in_body c.args.self.now n c.requires.insertion_mode c.requires.no_text no_svg is)

pub end_named-requires-clause-not_body : goal.end_named-requires-clause-not_body
end_named-requires-clause-not_body c = unlike c.args.name.now body (sym c.same_name.ensures ∙ c.if-same_name.false)

pub end_named-requires-clause-not_html : goal.end_named-requires-clause-not_html
end_named-requires-clause-not_html c = unlike c.args.name.now html (sym c.same_name-2.ensures ∙ c.if-same_name-2.false)

pub returns : goal.returns
returns c =
    let p = c.args.self.now in
    let n = c.args.name.now in
    let no_svg = sym c.is_in_svg.ensures ∙ c.if-is_in_svg.false in
    subst (λ (s : Stepped). Takes s c.end_named.result p c.end_named.new.self)
    (sym (other_in_body p n c.requires.insertion_mode c.requires.no_text no_svg (sym c.same_name-3.ensures ∙ c.if-same_name-3.false) (sym c.same_name.ensures ∙ c.if-same_name.false) (sym c.same_name-2.ensures ∙ c.if-same_name-2.false))) c.end_named.ensures
