use Rattle.std.proofs.Common.{◌∷◌, map, ap, ◌∙◌}
use Rattle.hm_cert.specs.Layout.{told}
use Rattle.hm_graph_laws.specs.Prices.{first_price}
use Rattle.hm_check.proofs.Sweeping.{none_swept, some_swept}
use Rattle.hm_check.proofs.rows.by_prices.Goals as goal

pub returns-in-Some : goal.returns-in-Some
returns-in-Some c = some_swept c.args.graph.now c.args.prices.now c.args.length c.in_ok-swept.swept c.in-Some.why c.requires c.in_ok-swept.ensures c.in-Some.is

pub returns : goal.returns
returns c =
    c.by_first.ensures
    ∙ none_swept c.args.graph.now c.args.prices.now c.args.length c.in_ok-swept.swept c.first_of.result c.requires c.in_ok-swept.ensures c.in-None.is
    (λ more. c.first_of.ensures more ∙ ap (λ items. first_price (map told items ∷ more)) c.as_slice.ensures.value)
