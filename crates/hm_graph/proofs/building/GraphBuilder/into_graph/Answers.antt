use Rattle.std.proofs.Common.{◌≡◌, ◌∙◌, List, ℕ, Some, length, ap, subst, sym}
use Rattle.hm_graph_laws.specs.Units.{units_of}
use Rattle.hm_graph.specs.Building.{AreThere, BuildingView, IsBuilt, building, recorded_at}
use Rattle.hm_graph.specs.Graphs.{GraphSource, GraphView, graph_view}
use Rattle.hm_graph.specs.Runs.{unroll}
use Rattle.hm_graph.proofs.Finished.{are_recorded, graph_made, numbers_are, spread_made}
use Rattle.hm_graph.proofs.building.GraphBuilder.into_graph.Goals as goal

pub runs_of-requires : goal.runs_of-requires
runs_of-requires c =
    let built : IsBuilt (building c.self.inside.interned c.self.inside.numbers c.self.inside.len c.self.inside.last) (units_of c.args.self.rules.spell c.args.tree.now) = subst (λ x. IsBuilt x (units_of c.args.self.rules.spell c.args.tree.now)) (sym c.self.view_is) c.requires in
    are_recorded c.self.inside.interned c.self.inside.numbers built.steps built.recorded

pub invariant_of-result : goal.invariant_of-result
invariant_of-result c =
    let interned = c.self.inside.interned in
    let numbers : List ℕ = unroll c.in_ok-runs.runs.items in
    let steps = c.in_ok-steps.steps.items in
    let same : Some numbers ≡ c.self.inside.numbers = c.in_ok-runs.ensures.numbers in
    let there : AreThere interned (Some numbers) c.self.inside.len = subst (λ ns. AreThere interned ns c.self.inside.len) (sym same) c.self.invariant.numbers_there in
    let b : BuildingView = building interned c.self.inside.numbers c.self.inside.len c.self.inside.last in
    let source : GraphSource = record { tree = c.args.tree.now; table = c.table-table.result.now; rules = c.rules-format.result.spell; format = c.rules-format.result.format } in
    let g : GraphView = graph_view source steps c.in_ok-runs.runs.items (length c.list-last.result.now) in
    let built : IsBuilt b (units_of b.rules.spell c.args.tree.now) = subst (λ x. IsBuilt x (units_of x.rules.spell c.args.tree.now)) (sym c.self.view_is) c.requires in (
      numbers_are interned steps numbers c.in_ok-steps.ensures there.0,
      graph_made b c.args.tree.now g built (λ i. record { tree = c.args.tree.now; table = c.table-table.ensures i; rules = (c.rules-format.ensures i).spell; format = (c.rules-format.ensures i).format })
          (ap Some (spread_made interned steps numbers c.in_ok-steps.ensures) ∙ ap (recorded_at interned) same) (ap length c.list-last.ensures.states),
      sym there.1,
      c.self.invariant.few,
      c.in_ok-runs.ensures.runs,
    )

pub returns-clause-steps : goal.returns-clause-steps
returns-clause-steps c =
    let interned = c.self.inside.interned in
    ap Some (spread_made interned c.in_ok-steps.steps.items (unroll c.in_ok-runs.runs.items) c.in_ok-steps.ensures) ∙ ap (recorded_at interned) c.in_ok-runs.ensures.numbers ∙ ap (λ b. b.recorded) c.self.view_is
