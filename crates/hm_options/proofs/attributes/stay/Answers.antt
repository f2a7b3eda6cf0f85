use Rattle.std.proofs.Common.{◌≡◌, ◌++◌, ◌∷◌, [], take, refl, sym, ◌∙◌, arith}
use Rattle.std.proofs.lemmas.List.{take_all}
use Rattle.hm_base.specs.Walks.{Attribute}
use Rattle.hm_options.specs.Passes.{attribute_pass, is_dropped, valued}
use Rattle.hm_options.proofs.OneByOne.{each_more}
use Rattle.hm_options.proofs.Distinct.{take_push}
use Rattle.hm_tree.specs.Views.{attributes_shown}
use Rattle.hm_options.proofs.attributes.stay.Goals as goal

pub loop-i-preserved : goal.loop-i-preserved
loop-i-preserved c =
    let o = c.args.options.now in
    let n = c.args.element.now in
    let attributes = attributes_shown c.args.attrs.now in
    let a : Attribute = record { name = c.at.result.0.now; value = c.at.result.1.now } in
    let one : attribute_pass o n a ≡ a ∷ [] = c.changes.ensures c.if-changes.false in
    let more = each_more (λ b. is_dropped o n (valued o b)) (valued o) attributes (take c.loop-i.i attributes ++ a ∷ []) c.loop-i.i a c.at.ensures (rw (c.loop-i.invariant, one) refl) in
    sym more ∙ sym (take_push attributes c.loop-i.i a c.at.ensures)

pub returns : goal.returns
returns c = λ _.
    let all = take_all c.loop-i.i (attributes_shown c.args.attrs.now) (omega (arith, c.len-i-end.ensures.len, c.loop-i-test.false)) in
    rw all at c.loop-i.invariant
