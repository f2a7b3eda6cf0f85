use Rattle.std.proofs.Common.{◌≡◌, [], ◌∷◌, ◌++◌, refl}
use Rattle.hm_open_elements.specs.Elements.{element_of, path_of, marks_of}
use Rattle.hm_open_elements.specs.declared.element.OpenElement.{OpenElement}
use Rattle.hm_open_elements.proofs.Elements.{AreMarked-push}
use Rattle.hm_open_elements.proofs.path.push.Goals as goal

pub returns-clause-pushed : goal.returns-clause-pushed
returns-clause-pushed c =
    let old = c.args.elements.now.items in
    let last : OpenElement = record { name = c.args.name; foreign = c.args.foreign; marks = c.marks_on-marks.result } in
    let items : c.push.new.self.items ≡ old ++ last ∷ [] = rw c.unwrap.ensures at c.push.ensures.items in
    let marked : c.marks_on-marks.result ≡ marks_of (element_of last ∷ path_of old) = rw (c.known-named.ensures, c.as_str.ensures, c.deref.ensures.value) at c.marks_on-marks.ensures in
    record { last = last; items = items; element_is = refl; marked = rw items (AreMarked-push old last c.requires.marked marked) }
