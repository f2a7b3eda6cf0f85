use Rattle.std.proofs.Common.{subst}
use Rattle.std.specs.Prelude.{IfSome}
use Rattle.hm_graph.specs.Still.{IsStill}
use Rattle.hm_graph.proofs.StillLengths.{still_low}
use Rattle.hm_graph.proofs.step.Step.still.Goals as goal

pub returns-clause-low : goal.returns-clause-low
returns-clause-low c = λ low. still_low c.self.inside.still c.args.self.now (subst (λ s. IfSome c.self.inside.still (λ len. IsStill len s)) c.self.view_is c.self.invariant.2) low
