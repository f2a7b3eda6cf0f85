use Rattle.std.proofs.Common.{Some, subst}
use Rattle.hm_refs.specs.Nodes.{IsFound}
use Rattle.hm_refs.proofs.Webs.{finds}
use Rattle.hm_refs.proofs.nodes.step.Goals as goal

pub returns-in-Some : goal.returns-in-Some
returns-in-Some c = finds _ _ _ _ _ _ c.requires.inside (subst (λ ns. IsFound ns c.args.at c.args.byte (Some c.in-Some.child)) c.deref.ensures.value c.in-Some.ensures)
