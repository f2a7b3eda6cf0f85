use Rattle.std.proofs.Common.{◌++◌, take, drop, sym, ap, ◌∙◌}
use Rattle.hm_options.specs.Space.{spaced}
use Rattle.hm_options.proofs.Fronts.{steady_to}
use Rattle.hm_options.proofs.spaces.steady_front.Goals as goal

pub returns-clause-same : goal.returns-clause-same
returns-clause-same c =
    let s = c.args.bytes.now in
    let to = c.steady_end-to.result in
    let steady = c.steady_end-to.ensures in
    steady_to s to steady.some steady.inside (sym c.changes.ensures ∙ c.if-changes.false) steady.steady ∙ ap (λ after. take to s ++ spaced after (drop to s)) (sym c.is_blank.ensures)
