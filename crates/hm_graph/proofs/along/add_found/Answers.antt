use Rattle.std.proofs.Common.{[], sym, subst}
use Rattle.hm_event_parts.specs.Found.{found_units}
use Rattle.hm_graph.specs.Going.{Goes}
use Rattle.hm_graph.proofs.Going.{goes_none}
use Rattle.hm_graph.proofs.along.add_found.Goals as goal

pub returns-in-Nothing : goal.returns-in-Nothing
returns-in-Nothing g c = subst (λ f. Goes g.V.Visitor.goes_on (found_units f) [] c.args.along.now c.args.along.now) (sym c.in-Nothing.is) (goes_none g.V.Visitor.goes_on [] c.args.along.now)
