use Rattle.std.proofs.Common.{ap, sym}
use Rattle.hm_graph.specs.Steps.{leaves_out}
use Rattle.hm_graph.proofs.step.Step.is_left_out.Goals as goal

pub returns-in-Full : goal.returns-in-Full
returns-in-Full c = sym (ap (λ format. leaves_out format c.args.self.now) c.in-Full.is)
