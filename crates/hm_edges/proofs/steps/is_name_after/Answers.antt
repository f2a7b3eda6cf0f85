use Rattle.hm_refs.specs.Tables.{front_at}
use Rattle.hm_edges.proofs.Children.{childless_name, child_name}
use Rattle.hm_edges.proofs.steps.is_name_after.Goals as goal

pub returns-in-None : goal.returns-in-None
returns-in-None c = childless_name c.args.table.now.entries (front_at c.args.table.now c.args.node) c.args.byte c.in-None.ensures.leads

pub returns-in-Some : goal.returns-in-Some
returns-in-Some c = child_name c.args.table.now.entries (front_at c.args.table.now c.args.node) (front_at c.args.table.now c.in-Some.child) c.args.byte c.is_name.result c.in-Some.ensures.leads c.is_name.ensures
