use Rattle.std.proofs.Common.{◌≡◌, ◌+◌, ◌-◌, ◌<◌, length, refl, sym, ap, subst, ◌∙◌, arith}
use Rattle.hm_options.specs.Passing.{IsFated, first_attributes, with_passed}
use Rattle.hm_options.proofs.Fates.{has_attribute, none_passed, one_passed}
use Rattle.hm_tree.specs.Edits.{HasAttribute}
use Rattle.hm_options.proofs.attributes.change_attributes.Goals as goal

pub loop-at-init : goal.loop-at-init
loop-at-init c = (refl, sym (none_passed c.args.options.now c.attribute_count-at.result c.args.editor.now.left c.attribute_count-at.ensures))

pub change_attribute-requires : goal.change_attribute-requires
change_attribute-requires c =
    let o = c.args.options.now in
    let l = c.args.editor.now.left in
    let at = c.loop-at.at - 1 in
    let one : at + 1 ≡ c.loop-at.at = omega (arith, c.loop-at-test.true) in
    let within : at < length (first_attributes l) = omega (arith, c.loop-at.auto.at, c.loop-at-test.true, c.attribute_count-at.ensures) in
    rw (c.loop-at.invariant.1) (subst (λ k. HasAttribute (with_passed o k l) at) one (has_attribute o at l within))

pub loop-at-preserved : goal.loop-at-preserved
loop-at-preserved c =
    let o = c.args.options.now in
    let l = c.args.editor.now.left in
    let at = c.loop-at.at - 1 in
    let new = c.change_attribute.new.editor.left in
    let one : c.loop-at.at ≡ at + 1 = omega (arith, c.loop-at-test.true) in
    let within : at < length (first_attributes l) = omega (arith, c.loop-at.auto.at, c.loop-at-test.true, c.attribute_count-at.ensures) in
    let before : c.loop-at.editor.left ≡ with_passed o (at + 1) l = c.loop-at.invariant.1 ∙ ap (λ k. with_passed o k l) one in
    (c.change_attribute.ensures.done ∙ c.loop-at.invariant.0, one_passed o at l new within (subst (λ x. IsFated o at x new) before c.change_attribute.ensures.left))

pub returns-clause-done : goal.returns-clause-done
returns-clause-done c = c.loop-at.invariant.0

pub returns-clause-left : goal.returns-clause-left
returns-clause-left c =
    let none : c.loop-at.at ≡ 0 = omega (arith, c.loop-at-test.false) in
    c.loop-at.invariant.1 ∙ ap (λ k. with_passed c.args.options.now k c.args.editor.now.left) none
