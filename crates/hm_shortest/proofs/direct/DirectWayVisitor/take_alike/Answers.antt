use Rattle.std.proofs.lemmas.Result.{on_ok_weaker}
use Rattle.hm_shortest.proofs.direct.DirectWayVisitor.take_alike.Goals as goal

pub returns-then-copies_one : goal.returns-then-copies_one
returns-then-copies_one c = on_ok_weaker c.go_over_copied.result (λ all. all c.args.table.now.entries) c.go_over_copied.ensures
