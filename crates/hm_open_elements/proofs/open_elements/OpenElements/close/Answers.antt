use Rattle.std.proofs.Common.{[], ap, sym, ◌∙◌, ◌-◌, arith}
use Rattle.std.specs.Vec.{vec_len}
use Rattle.hm_elements.specs.Paths.{outer}
use Rattle.hm_open_elements.proofs.Elements.{marked_first}
use Rattle.hm_open_elements.proofs.Opened.{outer_path}
use Rattle.hm_open_elements.specs.Elements.{path_of}
use Rattle.hm_open_elements.proofs.open_elements.OpenElements.close.Goals as goal

pub invariant_of-self : goal.invariant_of-self
invariant_of-self c = rw c.pop-closed.ensures.rest (marked_first [] (vec_len c.self.inside.elements - 1) c.self.inside.elements.items c.self.invariant)

pub returns : goal.returns
returns c = ap path_of c.pop-closed.ensures.rest ∙ sym (outer_path c.self.inside.elements.items (vec_len c.self.inside.elements - 1) (omega arith)) ∙ ap outer c.self.view_is
