use Rattle.std.proofs.Common.{◌∙◌, ap}
use Rattle.hm_graph_laws.specs.States.{nothing}
use Rattle.hm_graph_laws.specs.Steps.{unless}
use Rattle.hm_edges.proofs.steps.step.Goals as goal

pub returns-in-Hash-clause-step : goal.returns-in-Hash-clause-step
returns-in-Hash-clause-step c = rw c.in-Hash.is ((c.after_hash.ensures c.args.table.now).0)

pub returns-in-Hash-clause-nodes : goal.returns-in-Hash-clause-nodes
returns-in-Hash-clause-nodes c = (c.after_hash.ensures c.args.table.now).1

pub returns-in-LessThan-clause-step : goal.returns-in-LessThan-clause-step
returns-in-LessThan-clause-step c = rw c.in-LessThan.is ((c.unless.ensures c.args.table.now).0 ∙ ap (λ b. unless b nothing) c.opens.ensures)

pub returns-in-LessThan-clause-nodes : goal.returns-in-LessThan-clause-nodes
returns-in-LessThan-clause-nodes c = (c.unless.ensures c.args.table.now).1

pub returns-in-HashX-clause-step : goal.returns-in-HashX-clause-step
returns-in-HashX-clause-step c = rw c.in-HashX.is ((c.unless-in-HashX.ensures c.args.table.now).0 ∙ ap (λ b. unless b nothing) c.is_digit.ensures)

pub returns-in-HashX-clause-nodes : goal.returns-in-HashX-clause-nodes
returns-in-HashX-clause-nodes c = (c.unless-in-HashX.ensures c.args.table.now).1

pub returns-in-Decimal-clause-step : goal.returns-in-Decimal-clause-step
returns-in-Decimal-clause-step c = rw c.in-Decimal.is ((c.unless-in-Decimal.ensures c.args.table.now).0 ∙ ap (λ b. unless b nothing) c.goes_on_decimal.ensures)

pub returns-in-Decimal-clause-nodes : goal.returns-in-Decimal-clause-nodes
returns-in-Decimal-clause-nodes c = (c.unless-in-Decimal.ensures c.args.table.now).1

pub returns-in-Hexadecimal-clause-step : goal.returns-in-Hexadecimal-clause-step
returns-in-Hexadecimal-clause-step c = rw c.in-Hexadecimal.is ((c.unless-in-Hexadecimal.ensures c.args.table.now).0 ∙ ap (λ b. unless b nothing) c.goes_on_hexadecimal.ensures)

pub returns-in-Hexadecimal-clause-nodes : goal.returns-in-Hexadecimal-clause-nodes
returns-in-Hexadecimal-clause-nodes c = (c.unless-in-Hexadecimal.ensures c.args.table.now).1
