use Rattle.std.proofs.Common.{◌∙◌, List, length, sym, subst}
use Rattle.hm_graph.specs.Runs.{IsAt}
use Rattle.hm_graph.specs.declared.numbers.Run.{Run}
use Rattle.hm_graph.proofs.Runs.{at_end}
use Rattle.hm_graph.proofs.graph.Graph.last_layer.Goals as goal

pub returns-clause-place : goal.returns-clause-place
returns-clause-place c =
    let runs : List Run = c.self.inside.runs.items in
    subst (λ g. IsAt g.runs c.len.result 0 c.self.inside.len) c.self.view_is
    (subst (λ n. IsAt runs n 0 c.self.inside.len) (sym (c.len.ensures ∙ c.self.inside.runs.ok.0)) (subst (λ n. IsAt runs (length runs) 0 n) (sym c.self.invariant.2) (at_end runs)))
