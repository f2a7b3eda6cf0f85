use Rattle.std.proofs.Common.{drop, rules}
use Rattle.hm_page_loading.proofs.Taking.{pulled}
use Rattle.hm_page_loading.proofs.page.pull_more.Goals as goal

pub returns-in-Ok-take-clause-taken : goal.returns-in-Ok-take-clause-taken
returns-in-Ok-take-clause-taken g c =
    pulled c.args.builder.now c.take.new.self (g.S.Store.rest c.args.store.now) (g.S.Store.rest c.pull.new.self) c.in-Ok.count c.pull.new.into (drop c.min-most.result c.args.piece.now)
    c.in-Ok.ensures.bound.0 c.in-Ok.ensures.bytes (search rules) c.in-Ok-take.ensures.taken
