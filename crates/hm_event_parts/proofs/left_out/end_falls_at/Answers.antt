use Rattle.std.proofs.Common.{◌∙◌, ◌+◌, [], take, drop, sym}
use Rattle.hm_base.specs.Walks.{path_after}
use Rattle.hm_elements.specs.Paths.{current, outer}
use Rattle.hm_event_parts.proofs.Unlike.{no_end}
use Rattle.hm_event_parts.proofs.left_out.end_falls_at.Goals as goal

pub returns-else-may_have_optional_end : goal.returns-else-may_have_optional_end
returns-else-may_have_optional_end c = c.if-may_have_optional_end.false ∙ sym (no_end c.args.name.now (current (outer (path_after [] (take c.args.i c.args.tree.now)))) (take 1 (drop (c.args.i + 1) c.args.tree.now)) (sym c.may_have_optional_end.ensures ∙ c.if-may_have_optional_end.false))
