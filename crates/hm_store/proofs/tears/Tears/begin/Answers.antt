use Rattle.std.proofs.Common.{◌∙◌}
use Rattle.hm_store.proofs.TearLemmas.{tear_next-by_entries}
use Rattle.hm_store.proofs.tears.Tears.begin.Goals as goal

pub returns-clause-listed : goal.returns-clause-listed
returns-clause-listed c =
    c.copied.ensures ∙ c.get.ensures.value
    ∙ tear_next-by_entries c.self.inside.listed c.self.inside.puts c.saturating_add-self-inside.result c.args.self.now c.self.view_is c.saturating_add-self-inside.ensures
