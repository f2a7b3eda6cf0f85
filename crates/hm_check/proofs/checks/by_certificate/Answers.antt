use Rattle.std.proofs.Common.{◌∙◌, ap}
use Rattle.hm_check.proofs.Checking.{certificate_found, if_ok, source_rows}
use Rattle.hm_check.proofs.checks.by_certificate.Goals as goal

pub returns : goal.returns
returns c =
    if_ok c.by_rows.result
    (λ found e. certificate_found c.in_ok-graph.graph c.every_graph.ensures.graph c.args.length c.args.certificate.now.prices found e ∙ ap (λ of. source_rows of c.args.length c.args.certificate.now.prices) c.in_ok-graph.ensures)
    c.by_rows.ensures
