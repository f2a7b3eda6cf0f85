use Rattle.std.proofs.Common.{◌≡◌, ◌∙◌, ◌+◌, ◌-◌, ◌^◌, ◌++◌, [], cond, get_or, length, map, reverse, refl, ap, sym, subst, arith}
use Rattle.hm_cert.specs.Certificate.{row_line}
use Rattle.hm_cert.specs.Layout.{told}
use Rattle.hm_graph.specs.FewHops.{IsFewStep}
use Rattle.hm_graph.specs.Graphs.{IsLowStep}
use Rattle.hm_refs.specs.Tables.{IsTable}
use Rattle.std.proofs.lemmas.List.{length-map}
use Rattle.hm_graph.specs.Still.{AreStill}
use Rattle.hm_graph.specs.Prices.{is_left_out, row_over}
use Rattle.hm_graph.specs.Steps.{leaves_out}
use Rattle.hm_cert.specs.Rows.{AreBelow}
use Rattle.hm_shortest.specs.Plans.{IsFound}
use Rattle.hm_shortest.proofs.Alike.{along_found, along_low, still_forced}
use Rattle.hm_graph.proofs.Low.{low_step}
use Rattle.hm_shortest.proofs.FromLast.{are_below, back_more, prices_below, step_cut}
use Rattle.hm_shortest.proofs.FewChoices.{graph_step_few}
use Rattle.hm_shortest.proofs.plans.go_back.Goals as goal

pub pass_alike-requires-clause-below : goal.pass_alike-requires-clause-below
pass_alike-requires-clause-below c = subst (AreBelow (2 ^ 62)) (sym c.requires.found.prices) (prices_below c.args.graph.now.last c.args.graph.now.steps (c.args.at.layer + 1) c.every_graph.ensures.graph.low c.every_graph.ensures.few)

pub pass_alike-requires-clause-low : goal.pass_alike-requires-clause-low
pass_alike-requires-clause-low c =
    let low : IsLowStep c.step-step.result.now = subst IsLowStep (sym c.step-step.ensures) (low_step c.args.graph.now.steps c.args.at.layer c.every_graph.ensures.graph.low) in
    along_low (c.args.at.layer - c.back_alike-front.result.layer + 1) c.in-Some.len (omega (arith, c.requires.inside, c.every_graph.ensures.few)) (c.in-Some.ensures.low low)

pub go_over-requires-clause-below : goal.go_over-requires-clause-below
go_over-requires-clause-below c =
    let row = map told c.args.back.now.row.items in
    let below : AreBelow (2 ^ 62) row = subst (AreBelow (2 ^ 62)) (sym c.requires.found.prices) (prices_below c.args.graph.now.last c.args.graph.now.steps (c.args.at.layer + 1) c.every_graph.ensures.graph.low c.every_graph.ensures.few) in
    are_below (2 ^ 62) (2 ^ 63 + 2 ^ 62) row (omega arith) below

pub go_over-requires-clause-low : goal.go_over-requires-clause-low
go_over-requires-clause-low c = subst IsLowStep (sym c.step-step.ensures) (low_step c.args.graph.now.steps c.args.at.layer c.every_graph.ensures.graph.low)

pub returns-clause-found : goal.returns-clause-found
returns-clause-found c =
    let k = c.args.at.layer + 1 in
    let step = c.step-step.result.now in
    let row = map told c.args.back.now.row.items in
    let at : c.args.at.layer ≡ k - 1 = omega arith in
    let cut = step_cut c.args.graph.now.steps k step (omega arith) (omega (arith, c.requires.inside)) (c.step-step.ensures ∙ ap (λ n. get_or c.args.graph.now.steps n []) at) in
    subst (λ n. IsFound c.args.graph.now n c.go_over.new.self) (sym at)
    (back_more c.args.graph.now k step c.args.back.now.text c.go_over.new.self.text c.args.back.now.choices.items c.go_over.new.self.choices.items
    row (map told c.go_over.new.self.row.items) (omega arith) cut c.requires.found
    (c.in_ok-go_over.ensures.text ∙ ap (λ f. c.args.back.now.text ++ cond (is_left_out f c.args.at.layer step) [] (reverse (row_line (row_over row step)))) c.format-format.ensures ∙ ap (λ n. c.args.back.now.text ++ cond (is_left_out c.args.graph.now.source.format n step) [] (reverse (row_line (row_over row step)))) at)
    c.in_ok-go_over.ensures.choices c.in_ok-go_over.ensures.row)

pub returns-then-len-width-clause-found : goal.returns-then-len-width-clause-found
returns-then-len-width-clause-found c =
    let step = get_or c.args.graph.now.steps c.args.at.layer [] in
    let row = map told c.args.back.now.row.items in
    let still : AreStill c.in-Some.len step = subst (AreStill c.in-Some.len) c.step-step.ensures c.in-Some.ensures.still.1 in
    let left : leaves_out c.args.graph.now.source.format step ≡ c.is_left_out.result = ap (leaves_out c.args.graph.now.source.format) (sym c.step-step.ensures) ∙ ap (λ f. leaves_out f c.step-step.result.now) (sym c.format-format.ensures) ∙ sym c.is_left_out.ensures in
    let prices : length c.args.back.now.row.items ≡ length c.step-step.result.now = omega (arith, c.if-len-width.true, c.len.ensures, c.width.ensures, c.args.back.now.row.ok.0) in
    let same : length row ≡ length step = length-map c.args.back.now.row.items told ∙ prices ∙ ap length c.step-step.ensures in
    along_found c.args.graph.now c.args.at.layer c.back_alike-front.result.layer (c.args.at.layer - c.back_alike-front.result.layer + 1) c.in-Some.len c.args.back.now.text c.pass_alike.new.self.text c.args.back.now.choices.items
    c.pass_alike.new.self.choices.items row (map told c.pass_alike.new.self.row.items) c.is_left_out.result still (still_forced c.in-Some.len step still) left same c.requires.inside c.back_alike-front.ensures.layer.0 (omega (arith, c.if-at-gt0.true, c.back_alike-front.ensures.layer.1)) refl
    c.back_alike-front.ensures.alike c.requires.found c.in_ok-pass_alike.ensures.text (ap (λ v. v.items) c.in_ok-pass_alike.ensures.choices) c.in_ok-pass_alike.ensures.row

pub go_over-requires-clause-few : goal.go_over-requires-clause-few
go_over-requires-clause-few c =
    let table : IsTable c.args.graph.now.source.table.entries = subst (λ t. IsTable t.entries) c.table.ensures c.every_table.ensures.names in
    subst IsFewStep (sym c.step-step.ensures) (graph_step_few c.args.graph.now table c.every_graph.ensures.graph c.args.at.layer)
