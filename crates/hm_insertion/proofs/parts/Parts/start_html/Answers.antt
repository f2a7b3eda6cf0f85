use Rattle.std.proofs.Common.{◌≡◌, false, sym, subst, ◌∙◌}
use Rattle.hm_elements.specs.Tables.{is_root, is_refused}
use Rattle.hm_construction_laws.specs.Steps.{Stepped}
use Rattle.hm_insertion.specs.Building.{Fits}
use Rattle.hm_insertion.specs.Inside.{state_of, Takes}
use Rattle.hm_insertion.proofs.Started.{no_svg_before, name_refused, name_inside, name_root}
use Rattle.hm_insertion.proofs.parts.Parts.start_html.Goals as goal

pub open_root-requires-clause-not_svg : goal.open_root-requires-clause-not_svg
open_root-requires-clause-not_svg c = no_svg_before c.args.self.now.insertion_mode c.args.self.now.path c.requires.before

pub open_root-requires-clause-room : goal.open_root-requires-clause-room
open_root-requires-clause-room c =
    let p = c.args.self.now in
    subst (λ s. Fits s p.maker) (name_root c.args.name.now c.args.attrs.now c.args.slash (state_of p) (sym c.is_root.ensures ∙ c.if-is_root.true)) c.requires.room

pub returns-then-is_refused : goal.returns-then-is_refused
returns-then-is_refused c = rw c.from.ensures (name_refused c.args.name.now c.args.attrs.now c.args.slash (state_of c.args.self.now) (sym c.is_refused.ensures ∙ c.if-is_refused.true))

pub returns-then-is_root : goal.returns-then-is_root
returns-then-is_root c =
    let p = c.args.self.now in
    subst (λ (s : Stepped). Takes s c.open_root.result p c.open_root.new.self) (sym (name_root c.args.name.now c.args.attrs.now c.args.slash (state_of p) (sym c.is_root.ensures ∙ c.if-is_root.true))) c.open_root.ensures

pub start_before_body-requires-clause-room : goal.start_before_body-requires-clause-room
start_before_body-requires-clause-room c =
    let p = c.args.self.now in
    let plain : is_refused c.args.name.now ≡ false = sym c.is_refused.ensures ∙ c.if-is_refused.false in
    let no_root : is_root c.args.name.now ≡ false = sym c.is_root.ensures ∙ c.if-is_root.false in
    subst (λ s. Fits s p.maker) (name_inside c.args.name.now c.args.attrs.now c.args.slash (state_of p) plain no_root) c.requires.room

pub returns : goal.returns
returns c =
    let p = c.args.self.now in
    let plain : is_refused c.args.name.now ≡ false = sym c.is_refused.ensures ∙ c.if-is_refused.false in
    let no_root : is_root c.args.name.now ≡ false = sym c.is_root.ensures ∙ c.if-is_root.false in
    subst (λ (s : Stepped). Takes s c.start_before_body.result p c.start_before_body.new.self) (sym (name_inside c.args.name.now c.args.attrs.now c.args.slash (state_of p) plain no_root)) c.start_before_body.ensures
