use Rattle.std.proofs.Common.{◌-◌, length, arith}
use Rattle.hm_open_elements.proofs.Elements.{path_of-all, known_at}
use Rattle.hm_open_elements.proofs.open_elements.innermost.Goals as goal

pub returns-clause-path : goal.returns-clause-path
returns-clause-path c =
    path_of-all c.args.elements.now (length c.args.elements.now - 1) c.index-elements-elements.result c.index-elements-elements.is (omega (arith, c.if-elements-eq0.false))

pub returns-clause-kind : goal.returns-clause-kind
returns-clause-kind c = λ marked.
    known_at c.args.elements.now (length c.args.elements.now - 1) c.index-elements-elements.result c.index-elements-elements.is marked (omega (arith, c.if-elements-eq0.false))
