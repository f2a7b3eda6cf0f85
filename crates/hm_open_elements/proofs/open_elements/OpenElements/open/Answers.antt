use Rattle.std.proofs.Common.{◌≡◌, ◌∷◌, ap, ap₂, ◌∙◌}
use Rattle.hm_open_elements.specs.Elements.{element_of, path_of, marks_of}
use Rattle.hm_open_elements.specs.Moves.{element}
use Rattle.hm_open_elements.specs.declared.element.OpenElement.{OpenElement}
use Rattle.hm_open_elements.proofs.Elements.{AreMarked-push, path_of-push}
use Rattle.hm_open_elements.proofs.open_elements.OpenElements.open.Goals as goal

pub invariant_of-self-2 : goal.invariant_of-self-2
invariant_of-self-2 c =
    let old = c.self.inside.elements.items in
    let last : OpenElement = record { name = c.in_ok-name.name; foreign = c.args.foreign; marks = c.marks_on-marks.result } in
    let marked : c.marks_on-marks.result ≡ marks_of (element_of last ∷ path_of old) = rw c.in_ok-name.ensures (rw c.deref.ensures.value at c.marks_on-marks.ensures) in
    rw c.in_ok-push.ensures.items (AreMarked-push old last c.self.invariant marked)

pub returns-clause-ok : goal.returns-clause-ok
returns-clause-ok c =
    let old = c.self.inside.elements.items in
    let last : OpenElement = record { name = c.in_ok-name.name; foreign = c.args.foreign; marks = c.marks_on-marks.result } in
    ap path_of c.in_ok-push.ensures.items ∙ path_of-push old last ∙ ap₂ (λ n path. element n c.args.foreign ∷ path) c.in_ok-name.ensures c.self.view_is
