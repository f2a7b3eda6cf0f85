use Rattle.hm_shortest.proofs.Directly.{settled_on}
use Rattle.hm_shortest.proofs.direct.DirectWay.settle_before.Goals as goal

pub returns-in_ok-settle-clause-goes : goal.returns-in_ok-settle-clause-goes
returns-in_ok-settle-clause-goes c = settled_on c.args.table.now.entries c.args.self.now c.settle.new.self c.in_ok-settle.ensures.settled
