use Rattle.std.proofs.Common.{◌∷◌, [], ◌+◌, ◌<◌, length, false, None, refl, sym, subst, arith}
use Rattle.hm_edges.specs.Units as edges
use Rattle.hm_edges.specs.Units.{kind_of}
use Rattle.hm_edges.specs.declared.units.Unit.{Unit}
use Rattle.hm_edges.specs.declared.units.Unit.TheVariants.{Character}
use Rattle.hm_graph_laws.specs.Units as units
use Rattle.hm_graph.specs.Building.{AddsSteps, IsBuilding, building, more_numbers, numbered_step}
use Rattle.hm_graph.specs.Interned.{made_at}
use Rattle.hm_graph.proofs.Built.{adds_one, building_kept, building_more, made_one, recorded_few}
use Rattle.hm_graph.proofs.building.GraphBuilder.add_last.Goals as goal

pub invariant_of-self : goal.invariant_of-self
invariant_of-self c = building_kept c.self.inside.interned c.last_step.new.self c.self.inside.numbers c.self.inside.len c.self.inside.last c.self.invariant c.last_step.ensures.kept

pub keep_number-requires : goal.keep_number-requires
keep_number-requires c = recorded_few c.self.inside.interned c.self.inside.numbers c.self.inside.len c.self.inside.last 1 c.self.invariant (omega (arith, c.if-self.false))

pub invariant_of-self-in_err-keep_number : goal.invariant_of-self-in_err-keep_number
invariant_of-self-in_err-keep_number c =
    subst (λ ns. IsBuilding c.last_step.new.self ns c.self.inside.len c.self.inside.last) (sym c.in_err-keep_number.ensures.err)
    (building_kept c.self.inside.interned c.last_step.new.self c.self.inside.numbers c.self.inside.len c.self.inside.last c.self.invariant c.last_step.ensures.kept)

pub invariant_of-self-2 : goal.invariant_of-self-2
invariant_of-self-2 c =
    let old = c.self.inside in
    subst (λ ns. IsBuilding c.last_step.new.self ns (old.len + 1) c.in_ok-to.to.after) (sym c.in_ok-keep_number.ensures.ok)
    (building_more old.interned c.last_step.new.self old.numbers old.len 1 old.last c.in_ok-to.to.number c.in_ok-to.to.after c.self.invariant c.last_step.ensures.kept c.in_ok-to.ensures.step.there
    (subst (λ b. b < length c.last_step.new.self.lists) (sym c.in_ok-to.ensures.after) c.in_ok-to.ensures.step.after) (omega (arith, c.if-self.false)))

pub returns-clause-adds : goal.returns-clause-adds
returns-clause-adds c =
    let old = c.self.inside in
    let new = c.last_step.new.self in
    let n = c.in_ok-to.to.number in
    let unit : Unit = Character c.args.kind c.args.c None false in
    let u : units.Unit = units.character (kind_of c.args.kind) c.args.c None in
    subst (λ a. AddsSteps a (building new c.keep_number.new.numbers (old.len + 1) c.in_ok-to.to.after) (u ∷ []) (numbered_step (building new c.keep_number.new.numbers (old.len + 1) c.in_ok-to.to.after) n ∷ [])) c.self.view_is
    (subst (λ ns. AddsSteps (building old.interned old.numbers old.len old.last) (building new ns (old.len + 1) c.in_ok-to.to.after) (u ∷ []) ((made_at new n).step ∷ [])) (sym c.in_ok-keep_number.ensures.ok)
    (subst (λ k. AddsSteps (building old.interned old.numbers old.len old.last) (building new (more_numbers old.numbers 1 n) (old.len + 1) k) (u ∷ []) ((made_at new n).step ∷ [])) (sym c.in_ok-to.ensures.after)
    (adds_one old.interned new old.numbers old.len old.last unit n c.self.invariant c.last_step.ensures.kept c.in_ok-to.ensures.step u
    (edges.character c.args.kind c.args.c None None false refl refl))))

pub returns-clause-step : goal.returns-clause-step
returns-clause-step c =
    made_one c.last_step.new.self c.keep_number.new.numbers (c.self.inside.len + 1) c.self.inside.last c.in_ok-to.to.after (Character c.args.kind c.args.c None false) c.in_ok-to.to.number c.in_ok-to.ensures.step
