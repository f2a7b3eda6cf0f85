use Rattle.std.proofs.Common.{◌∙◌}
use Rattle.hm_options.proofs.AtOnce.{at_once}
use Rattle.hm_options.proofs.top.by_events.Goals as goal

pub returns-in_ok-made : goal.returns-in_ok-made
returns-in_ok-made c = c.in_ok-made.ensures ∙ at_once c.args.options.now c.args.tree c.len.ensures.walk.apart
