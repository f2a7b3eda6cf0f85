use Rattle.std.proofs.Common.{◌≡◌, ◌∙◌, arith}
use Rattle.hm_elements.specs.Names.{tbody, tr, colgroup}
use Rattle.hm_open_elements.specs.Elements.{name_of}
use Rattle.hm_open_elements.proofs.Elements.{known_at}
use Rattle.hm_open_elements.proofs.Ends.{stands_alone, stands_on_made}
use Rattle.hm_open_elements.proofs.plan.stands.Goals as goal

pub named-current-requires : goal.named-current-requires
named-current-requires c =
    known_at c.args.elements.now _ c.index-elements-elements.result c.index-elements-elements.is c.requires.marked (omega (arith, c.requires.least))

pub returns-in-Nothing : goal.returns-in-Nothing
returns-in-Nothing c =
    let o = c.index-elements-elements.result in
    let p = c.index-elements-elements-in-Nothing.result in
    let current : c.named-current.result.name.now ≡ name_of o.name = cc in
    let around : c.as_str.result.now ≡ name_of p.name = cc in
    rw c.in-Nothing.is (rw (current, around) at c.may_stand.ensures ∙ stands_alone c.args.elements.now c.args.tag.name.now o p c.requires c.index-elements-elements.is c.index-elements-elements-in-Nothing.is)

pub returns-in-Section : goal.returns-in-Section
returns-in-Section c =
    let o = c.index-elements-elements.result in
    let current : c.named-current.result.name.now ≡ name_of o.name = cc in
    rw c.in-Section.is (rw (c.name.ensures, current, c.of.ensures) at c.may_stand-in-Section.ensures ∙ stands_on_made c.args.elements.now c.args.tag.name.now tbody o c.requires c.index-elements-elements.is)

pub returns-in-Row : goal.returns-in-Row
returns-in-Row c =
    let o = c.index-elements-elements.result in
    let current : c.named-current.result.name.now ≡ name_of o.name = cc in
    rw c.in-Row.is (rw (c.name-in-Row.ensures, current, c.of-in-Row.ensures) at c.may_stand-in-Row.ensures ∙ stands_on_made c.args.elements.now c.args.tag.name.now tr o c.requires c.index-elements-elements.is)

pub returns-in-Colgroup : goal.returns-in-Colgroup
returns-in-Colgroup c =
    let o = c.index-elements-elements.result in
    let current : c.named-current.result.name.now ≡ name_of o.name = cc in
    rw c.in-Colgroup.is (rw (c.name-in-Colgroup.ensures, current, c.of-in-Colgroup.ensures) at c.may_stand-in-Colgroup.ensures ∙ stands_on_made c.args.elements.now c.args.tag.name.now colgroup o c.requires c.index-elements-elements.is)
