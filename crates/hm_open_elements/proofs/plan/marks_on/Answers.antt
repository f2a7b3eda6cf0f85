use Rattle.hm_open_elements.specs.Elements.{path_of}
use Rattle.hm_open_elements.proofs.plan.marks_on.Goals as goal

pub returns : goal.returns
returns c = c.at.ensures (path_of c.args.elements.now) c.marks.ensures
