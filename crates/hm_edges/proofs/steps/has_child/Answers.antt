use Rattle.std.proofs.Common.{◌∙◌}
use Rattle.hm_refs.specs.Tables.{front_at}
use Rattle.hm_edges.proofs.Children.{child_there}
use Rattle.hm_edges.proofs.steps.has_child.Goals as goal

pub returns : goal.returns
returns c = c.is_some.ensures ∙ child_there c.args.table.now.entries (front_at c.args.table.now c.args.node) c.args.byte (front_at c.args.table.now) c.child.result c.child.ensures.leads
