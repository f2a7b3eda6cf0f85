use Rattle.std.proofs.Common.{sym}
use Rattle.hm_order.proofs.Scans.{nothing_stays}
use Rattle.hm_order.proofs.scan.literal_after.Goals as goal

pub returns-in-Nothing-clause-literal : goal.returns-in-Nothing-clause-literal
returns-in-Nothing-clause-literal c = rw (c.in-Nothing.is) (sym (nothing_stays c.args.table.now.entries c.args.c c.if-c-ne38.true))
