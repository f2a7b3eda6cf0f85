use Rattle.std.proofs.Common.{◌≡◌, ◌∙◌, ◌++◌, [], cond, map, reverse, ap}
use Rattle.std.proofs.lemmas.Result.{on_ok_weaker}
use Rattle.hm_cert.specs.Certificate.{row_line}
use Rattle.hm_cert.specs.Layout.{told}
use Rattle.hm_graph.specs.Prices.{row_over}
use Rattle.hm_shortest.proofs.plans.Back.go_over.Goals as goal

pub returns-clause-text : goal.returns-clause-text
returns-clause-text c =
    let row : map told c.deref.result.now ≡ row_over (map told c.args.self.now.row.items) c.args.step.now = ap (map told) c.deref.ensures.value ∙ c.in_ok-pass.ensures.row in
    on_ok_weaker c.put_line.result (λ e. e ∙ (λ i. c.in_ok-pass.ensures.text i ++ cond (c.is_left_out-left_out.ensures i) [] (reverse (row_line (row i))))) c.put_line.ensures
