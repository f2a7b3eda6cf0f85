use Rattle.std.proofs.Common.{◌∙◌}
use Rattle.hm_edges.proofs.Children.{root_tells}
use Rattle.hm_edges.proofs.steps.is_root.Goals as goal

pub returns : goal.returns
returns c = c.eq.ensures ∙ root_tells c.args.table.now c.args.node c.root.result c.requires c.root.ensures.node c.root.ensures.front
