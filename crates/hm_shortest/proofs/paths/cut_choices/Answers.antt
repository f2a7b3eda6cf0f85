use Rattle.std.proofs.Common.{◌≡◌, ◌∙◌, ℕ, ◌+◌, ◌<◌, ◌++◌, [], true, false, cond, drop, get_or, length, map, take, sym, ap, append-nil, arith}
use Rattle.std.proofs.lemmas.List.{drop_at, length-append, length-map, take_at}
use Rattle.hm_graph.specs.Graphs.{GraphView}
use Rattle.hm_graph.specs.Steps.{Step, is_forced}
use Rattle.hm_graph.specs.Ways.{choice, choices_of, step_choices}
use Rattle.hm_shortest.specs.Paths.{row_after}
use Rattle.hm_shortest.proofs.FirstWay.{step_next}
use Rattle.hm_shortest.proofs.paths.cut_choices.Goals as goal

-- the choices from a step on are those after it and its own
choices_next : (g : GraphView) (k : ℕ) → k < length g.steps → choices_of g.last (drop k g.steps) ≡ choices_of g.last (drop (k + 1) g.steps) ++ step_choices (row_after g k) (get_or g.steps k [])
choices_next g k inside = ap (choices_of g.last) (step_next g.steps k inside)

pub returns-then-is_forced-clause-after : goal.returns-then-is_forced-clause-after
returns-then-is_forced-clause-after c =
    let g : GraphView = c.args.graph.now in
    let k : ℕ = c.args.at.layer in
    let after = choices_of g.last (drop (k + 1) g.steps) in
    let step : Step = get_or g.steps k [] in
    let forced : is_forced step ≡ true = ap is_forced (sym c.step-step.ensures) ∙ sym c.is_forced.ensures ∙ c.if-is_forced.true in
    c.requires.choices ∙ choices_next g k c.requires.inside ∙ (λ i. after ++ cond (forced i) [] (map (choice (row_after g k)) step)) ∙ append-nil after

pub returns-clause-after : goal.returns-clause-after
returns-clause-after c =
    let g : GraphView = c.args.graph.now in
    let k : ℕ = c.args.at.layer in
    let after = choices_of g.last (drop (k + 1) g.steps) in
    let step : Step = get_or g.steps k [] in
    let own = map (choice (row_after g k)) step in
    let free : is_forced step ≡ false = ap is_forced (sym c.step-step.ensures) ∙ sym c.is_forced.ensures ∙ c.if-is_forced.false in
    let whole : c.args.choices.now ≡ after ++ own = c.requires.choices ∙ choices_next g k c.requires.inside ∙ (λ i. after ++ cond (free i) [] own) in
    c.split_at.ensures.front ∙ ap (take _) whole
    ∙ take_at after own _ (omega (arith, c.width.ensures, ap length c.step-step.ensures, ap length whole, length-append after own, length-map step (choice (row_after g k))))

pub returns-clause-front : goal.returns-clause-front
returns-clause-front c =
    let g : GraphView = c.args.graph.now in
    let k : ℕ = c.args.at.layer in
    let after = choices_of g.last (drop (k + 1) g.steps) in
    let step : Step = get_or g.steps k [] in
    let own = map (choice (row_after g k)) step in
    let free : is_forced step ≡ false = ap is_forced (sym c.step-step.ensures) ∙ sym c.is_forced.ensures ∙ c.if-is_forced.false in
    let whole : c.args.choices.now ≡ after ++ own = c.requires.choices ∙ choices_next g k c.requires.inside ∙ (λ i. after ++ cond (free i) [] own) in
    c.split_at.ensures.back ∙ ap (drop _) whole
    ∙ drop_at after own _ (omega (arith, c.width.ensures, ap length c.step-step.ensures, ap length whole, length-append after own, length-map step (choice (row_after g k))))
    ∙ sym (λ i. cond (free i) [] own)
