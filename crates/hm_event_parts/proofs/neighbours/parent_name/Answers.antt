use Rattle.std.proofs.Common.{sym, ap, ◌∙◌}
use Rattle.hm_elements.specs.Paths.{current}
use Rattle.hm_event_parts.proofs.Surroundings.{outer_before_start}
use Rattle.hm_event_parts.proofs.neighbours.parent_name.Goals as goal

pub returns-in-Some : goal.returns-in-Some
returns-in-Some c = c.element_around.ensures.name ∙ ap current (sym (outer_before_start c.args.tree.now c.args.i c.in-Some.own c.in-Some.ensures.element.0 c.in-Some.ensures.value))
