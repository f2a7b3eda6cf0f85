use Rattle.std.proofs.Common.{ap, arith, length}
use Rattle.hm_open_elements.proofs.Elements.{length-path_of}
use Rattle.hm_open_elements.proofs.Kept.{begins, all_names_utf8}
use Rattle.hm_open_elements.proofs.path.Path.len.Goals as goal

pub returns-clause-len : goal.returns-clause-len
returns-clause-len c = omega (arith, length-path_of c.self.inside.elements.items, ap length c.self.view_is, c.len.ensures)

pub returns-clause-begins : goal.returns-clause-begins
returns-clause-begins c = rw (← c.self.view_is) (begins c.self.inside.elements.items c.self.invariant.path)

pub returns-clause-utf8 : goal.returns-clause-utf8
returns-clause-utf8 c = rw (← c.self.view_is) (all_names_utf8 c.self.inside.elements.items)
