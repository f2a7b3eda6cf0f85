use Rattle.std.proofs.Common.{ap, ◌∙◌}
use Rattle.hm_store.specs.Tears.{with_tear}
use Rattle.hm_store.proofs.TearLemmas.{log-inserted}
use Rattle.hm_store.proofs.tears.Tears.list.Goals as goal

pub returns-clause-ok : goal.returns-clause-ok
returns-clause-ok c =
    log-inserted c.self.inside.listed c.insert.new.self c.self.inside.puts c.from.result c.args.bytes c.args.self.now c.self.view_is c.in_ok-insert.ensures.updates
    ∙ ap (λ put. with_tear c.args.self.now put c.args.bytes) c.from.ensures
