use Rattle.std.proofs.Common.{◌∙◌, subst, sym}
use Rattle.hm_graph_laws.specs.Units.{units_of}
use Rattle.hm_graph.proofs.Finished.{goes_all, goes_to_end}
use Rattle.hm_graph.specs.Building.{IsBuilt}
use Rattle.hm_graph.proofs.graph.Graph.visited.Goals as goal

pub into_graph-requires : goal.into_graph-requires
into_graph-requires g c =
    let new = c.in_ok-new.field-0 in
    let goes = c.in_ok-add_tree.ensures in
    subst (λ r. IsBuilt c.add_tree.new.along.graph (units_of r.spell c.args.tree.now)) (sym (goes.adds.rules ∙ c.in_ok-new.ensures.rules))
    (goes_all g.V.Visitor.goes_on (units_of c.args.rules c.args.tree.now) (record { graph = new; by = c.args.visitor }) c.add_tree.new.along c.in_ok-new.ensures.begun c.in_ok-new.ensures.recorded goes)

pub returns-clause-source : goal.returns-clause-source
returns-clause-source g c =
    let adds = c.in_ok-add_tree.ensures.adds in
    c.in_ok-graph.ensures.source
    ∙ (λ i. record { tree = c.args.tree.now; table = (adds.table ∙ c.in_ok-new.ensures.table) i; rules = ((adds.rules ∙ c.in_ok-new.ensures.rules) i).spell; format = ((adds.rules ∙ c.in_ok-new.ensures.rules) i).format })

pub returns-clause-goes_on : goal.returns-clause-goes_on
returns-clause-goes_on g c = λ end h.
    goes_to_end g.V.Visitor.goes_on c.args.table.now (units_of c.args.rules c.args.tree.now) c.in_ok-graph.graph.steps (record { graph = c.in_ok-new.field-0; by = c.args.visitor }) c.add_tree.new.along c.in_ok-new.ensures.table c.in_ok-new.ensures.recorded c.in_ok-add_tree.ensures
    c.in_ok-graph.ensures.steps end h
