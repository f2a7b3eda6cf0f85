use Rattle.hm_refs.specs.Tables.{front_at}
use Rattle.hm_graph_laws.specs.States.{named}
use Rattle.hm_edges.proofs.Children.{onto_nothing, onto_child}
use Rattle.hm_edges.proofs.steps.onto_named.Goals as goal

pub returns-in-None-clause-step : goal.returns-in-None-clause-step
returns-in-None-clause-step c = onto_nothing named c.args.table.now.entries (front_at c.args.table.now c.args.node) c.args.byte c.in-None.ensures.leads

pub returns-in-Some-clause-step : goal.returns-in-Some-clause-step
returns-in-Some-clause-step c = onto_child named c.args.table.now.entries (front_at c.args.table.now c.args.node) (front_at c.args.table.now c.in-Some.child) c.args.byte c.in-Some.ensures.leads
