use Rattle.std.proofs.Common.{ap, arith, length}
use Rattle.hm_open_elements.proofs.Elements.{length-path_of}
use Rattle.hm_open_elements.proofs.open_elements.OpenElements.len.Goals as goal

pub returns : goal.returns
returns c = omega (arith, length-path_of c.self.inside.elements.items, ap length c.self.view_is, c.len.ensures)
