use Rattle.std.proofs.Common.{ap, ◌∙◌}
use Rattle.hm_store.specs.Calls.{with_listed}
use Rattle.hm_store.proofs.CallLemmas.{log-inserted}
use Rattle.hm_store.proofs.calls.Calls.list.Goals as goal

pub returns-clause-ok : goal.returns-clause-ok
returns-clause-ok c =
    log-inserted c.self.inside.listed c.insert.new.self c.self.inside.made c.self.inside.faults c.from.result c.args.self.now c.self.view_is c.in_ok-insert.ensures.updates
    ∙ ap (with_listed c.args.self.now) c.from.ensures
