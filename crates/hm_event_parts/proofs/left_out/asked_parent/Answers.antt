use Rattle.std.proofs.Common.{◌∙◌, [], take, sym}
use Rattle.hm_base.specs.Walks.{path_after}
use Rattle.hm_elements.specs.Paths.{current, outer}
use Rattle.hm_event_parts.proofs.Unlike.{other_parent}
use Rattle.hm_event_parts.proofs.left_out.asked_parent.Goals as goal

pub returns-else-asks_for_parent : goal.returns-else-asks_for_parent
returns-else-asks_for_parent c = λ w.
    other_parent c.args.name.now [] (current (outer (path_after [] (take c.args.i c.args.tree.now)))) w (sym c.asks_for_parent.ensures ∙ c.if-asks_for_parent.false)
