use Rattle.std.proofs.Common.{◌∙◌}
use Rattle.hm_store.proofs.CallLemmas.{fails_next-by_keys}
use Rattle.hm_store.proofs.calls.Calls.begin.Goals as goal

pub returns-clause-listed : goal.returns-clause-listed
returns-clause-listed c =
    c.contains.ensures
    ∙ fails_next-by_keys c.self.inside.listed c.self.inside.made c.self.inside.faults c.saturating_add-self-inside.result c.args.self.now c.self.view_is c.saturating_add-self-inside.ensures
