use Rattle.std.proofs.Common.{sym}
use Rattle.hm_graph.proofs.Finished.{walk_ended}
use Rattle.hm_graph.proofs.build.walk.Goals as goal

pub returns : goal.returns
returns g c =
    walk_ended g.V.Visitor.goes_on (record { tree = c.args.tree.now; table = c.args.table.now; rules = c.args.rules; format = c.args.format }) (record { graph = c.in_ok-new.field-0; by = c.args.visitor }) c.add_tree.new.along c.into_walked.result
    c.in_ok-new.ensures.begun (sym c.in_ok-new.ensures.table) c.in_ok-new.ensures.rules c.in_ok-add_tree.ensures c.into_walked.ensures.len c.into_walked.ensures.last c.into_walked.ensures.few
