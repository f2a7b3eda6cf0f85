use Rattle.std.proofs.Common.{arith}
use Rattle.hm_refs.proofs.FlagLaws.{not_plain}
use Rattle.hm_refs.proofs.table.Table.is_plain.Goals as goal

pub returns-in-None : goal.returns-in-None
returns-in-None c = not_plain c.args.self.now.entries c.args.c (omega (arith, (c.in-None.ensures {u = tt}).lookup.3, c.self.invariant.2.all))
