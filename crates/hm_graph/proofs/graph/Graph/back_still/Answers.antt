use Rattle.std.proofs.Common.{refl, ◌≡◌, ◌<◌, ◌+◌, ◌-◌, ◌^◌, ℕ, drop, sym, subst, arith}
use Rattle.hm_graph.specs.Graphs.{IsLowStep}
use Rattle.hm_graph.specs.StillRuns.{AreStillOver, LeavesOutStill}
use Rattle.hm_graph.proofs.Low.{low_step}
use Rattle.hm_graph.proofs.StillSteps.{back_over, more_low}
use Rattle.hm_graph.proofs.graph.Graph.back_still.Goals as goal

pub loop-front-init : goal.loop-front-init
loop-front-init c =
    let none : 0 ≡ c.args.at.layer - c.args.at.layer = omega arith in
    record {
      place = c.requires.place;
      low = omega arith;
      first = λ some. some;
      still = subst (λ n. AreStillOver c.args.self.now.source.format (drop c.args.at.layer c.args.self.now.steps) n c.args.width 0) none refl;
      bytes = omega arith;
    }

pub overflow_mul-len : goal.overflow_mul-len
overflow_mul-len c =
    let one : c.back-next.result.layer + 1 ≡ c.loop-front.front.layer = omega (arith, c.back-next.ensures.layer, c.loop-front-test.true) in
    let few : c.in-Some.own < 2 ^ 33 = c.in-Some.ensures.low (subst IsLowStep (sym c.step.ensures) (low_step c.args.self.now.steps c.back-next.result.layer c.every_graph.ensures.graph.low)) in
    let all = more_low c.args.at.layer c.loop-front.front.layer c.back-next.result.layer c.back_alike-front.result.layer c.in-Some.own c.loop-front.len one c.loop-front.invariant.low c.back_alike-front.ensures.layer.0 few c.loop-front.invariant.bytes in
    omega (arith, all, c.requires.within, c.every_graph.ensures.few)

pub overflow_add-len-in-loop-front : goal.overflow_add-len-in-loop-front
overflow_add-len-in-loop-front c =
    let one : c.back-next.result.layer + 1 ≡ c.loop-front.front.layer = omega (arith, c.back-next.ensures.layer, c.loop-front-test.true) in
    let few : c.in-Some.own < 2 ^ 33 = c.in-Some.ensures.low (subst IsLowStep (sym c.step.ensures) (low_step c.args.self.now.steps c.back-next.result.layer c.every_graph.ensures.graph.low)) in
    let all = more_low c.args.at.layer c.loop-front.front.layer c.back-next.result.layer c.back_alike-front.result.layer c.in-Some.own c.loop-front.len one c.loop-front.invariant.low c.back_alike-front.ensures.layer.0 few c.loop-front.invariant.bytes in
    omega (arith, all, c.requires.within, c.every_graph.ensures.few)

pub loop-front-preserved : goal.loop-front-preserved
loop-front-preserved c =
    let l = c.loop-front in
    let next : ℕ = c.back-next.result.layer in
    let to : ℕ = c.back_alike-front.result.layer in
    let one : next + 1 ≡ l.front.layer = omega (arith, c.back-next.ensures.layer, c.loop-front-test.true) in
    let few : c.in-Some.own < 2 ^ 33 = c.in-Some.ensures.low (subst IsLowStep (sym c.step.ensures) (low_step c.args.self.now.steps next c.every_graph.ensures.graph.low)) in
    let out : LeavesOutStill c.args.self.now.source.format c.args.width = subst (λ g. LeavesOutStill g.source.format c.args.width) c.self.view_is (c.if-not-leaves_out_still.ensures refl) in
    record {
      place = c.back_alike-front.ensures.place;
      low = omega (arith, one, l.invariant.low, c.back_alike-front.ensures.layer.0);
      first = λ some. omega (arith, c.back-next.ensures.layer, c.loop-front-test.true, c.back_alike-front.ensures.layer.1);
      still =
          back_over c.args.self.now.source.format c.args.self.now.steps c.args.at.layer l.front.layer next to c.args.width c.in-Some.own l.len c.step.result.now c.step.ensures one l.invariant.low c.requires.within c.back_alike-front.ensures.layer.0
          c.back_alike-front.ensures.alike (c.in-Some.ensures.width refl) (out c.step.result.now c.in-Some.own c.in-Some.ensures.still (c.in-Some.ensures.width refl)) c.in-Some.ensures.still.1 l.invariant.still;
      bytes = more_low c.args.at.layer l.front.layer next to c.in-Some.own l.len one l.invariant.low c.back_alike-front.ensures.layer.0 few l.invariant.bytes;
    }
