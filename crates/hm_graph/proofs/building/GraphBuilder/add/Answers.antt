use Rattle.std.proofs.Common.{◌∷◌, [], ◌+◌, sym, subst, arith}
use Rattle.hm_edges.specs.Units.{StandsFor}
use Rattle.hm_graph.specs.Building.{AddsSteps, IsBuilding, building, more_numbers}
use Rattle.hm_graph.specs.Interned.{made_at}
use Rattle.hm_graph.proofs.Built.{adds_one, building_kept, building_more, made_one, recorded_few}
use Rattle.hm_graph.proofs.building.GraphBuilder.add.Goals as goal

pub invariant_of-self : goal.invariant_of-self
invariant_of-self c = building_kept c.self.inside.interned c.step.new.self c.self.inside.numbers c.self.inside.len c.self.inside.last c.self.invariant c.step.ensures.kept

pub keep_number-requires : goal.keep_number-requires
keep_number-requires c = recorded_few c.self.inside.interned c.self.inside.numbers c.self.inside.len c.self.inside.last 1 c.self.invariant (omega (arith, c.if-self.false))

pub invariant_of-self-in_err-keep_number : goal.invariant_of-self-in_err-keep_number
invariant_of-self-in_err-keep_number c =
    subst (λ ns. IsBuilding c.step.new.self ns c.self.inside.len c.self.inside.last) (sym c.in_err-keep_number.ensures.err)
    (building_kept c.self.inside.interned c.step.new.self c.self.inside.numbers c.self.inside.len c.self.inside.last c.self.invariant c.step.ensures.kept)

pub invariant_of-self-2 : goal.invariant_of-self-2
invariant_of-self-2 c =
    let old = c.self.inside in
    let new = c.step.new.self in
    let n = c.in_ok-number.number in
    subst (λ ns. IsBuilding new ns (old.len + 1) c.after-last.result) (sym c.in_ok-keep_number.ensures.ok)
    (subst (λ k. IsBuilding new (more_numbers old.numbers 1 n) (old.len + 1) k) (sym c.after-last.ensures)
    (building_more old.interned new old.numbers old.len 1 old.last n (made_at new n).after c.self.invariant c.step.ensures.kept c.in_ok-number.ensures.step.there c.in_ok-number.ensures.step.after (omega (arith, c.if-self.false))))

pub returns-clause-adds : goal.returns-clause-adds
returns-clause-adds c = λ u stands.
    let old = c.self.inside in
    let new = c.step.new.self in
    let n = c.in_ok-number.number in
    subst (λ a. AddsSteps a (building new c.keep_number.new.numbers (old.len + 1) c.after-last.result) (u ∷ []) ((made_at new n).step ∷ [])) c.self.view_is
    (subst (λ ns. AddsSteps (building old.interned old.numbers old.len old.last) (building new ns (old.len + 1) c.after-last.result) (u ∷ []) ((made_at new n).step ∷ [])) (sym c.in_ok-keep_number.ensures.ok)
    (subst (λ k. AddsSteps (building old.interned old.numbers old.len old.last) (building new (more_numbers old.numbers 1 n) (old.len + 1) k) (u ∷ []) ((made_at new n).step ∷ [])) (sym c.after-last.ensures)
    (adds_one old.interned new old.numbers old.len old.last c.args.unit.now n c.self.invariant c.step.ensures.kept c.in_ok-number.ensures.step u (subst (λ b. StandsFor b.table.entries c.args.unit.now u) (sym c.self.view_is) stands))))

pub returns-clause-step : goal.returns-clause-step
returns-clause-step c = made_one c.step.new.self c.keep_number.new.numbers (c.self.inside.len + 1) c.self.inside.last c.after-last.result c.args.unit.now c.in_ok-number.number c.in_ok-number.ensures.step
