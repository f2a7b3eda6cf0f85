use Rattle.std.proofs.Common.{subst}
use Rattle.std.proofs.lemmas.Result.{IfOk-weaker}
use Rattle.hm_cert.specs.Certificate.{AreRows}
use Rattle.hm_order.specs.Shortest.{certified_rows}
use Rattle.hm_minify.proofs.work.write_shortest.Goals as goal

pub returns-clause-readable : goal.returns-clause-readable
returns-clause-readable c = IfOk-weaker c.minify_tree.result _ _
    (λ made readable. subst (λ format. AreRows (certified_rows c.args.input.now.table.entries c.args.writing.rules format c.args.input.now.tree)) c.format_of.ensures (readable c.requires.settled)) c.minify_tree.ensures.readable
