use Rattle.std.proofs.Common.{arith}
use Rattle.hm_open_elements.proofs.Elements.{marked_at}
use Rattle.hm_open_elements.proofs.plan.marks.Goals as goal

pub returns-in-Some : goal.returns-in-Some
returns-in-Some c =
    let item = c.in-Some.ensures.item in
    marked_at c.args.elements.now _ c.in-Some.innermost.now item.1 c.requires (omega (arith, item.3.0))
