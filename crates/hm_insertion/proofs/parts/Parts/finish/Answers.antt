use Rattle.std.proofs.Common.{sym, subst}
use Rattle.hm_construction_laws.specs.Steps.{step_over}
use Rattle.hm_insertion.specs.Building.{IsBuilt}
use Rattle.hm_insertion.specs.Inside.{state_of}
use Rattle.hm_insertion.proofs.parts.Parts.finish.Goals as goal

pub returns-in-Ok : goal.returns-in-Ok
returns-in-Ok c = subst (IsBuilt (step_over (state_of c.args.self)) c.args.self.maker) (sym c.finish.ensures) c.in-Ok.ensures.built
