use Rattle.std.proofs.Common.{◌≡◌, ◌∙◌, ◌-◌, drop, sym, subst, arith}
use Rattle.hm_graph.specs.StillRuns.{AreStillOver}
use Rattle.hm_check.specs.Sweeps.{IsSwept}
use Rattle.hm_check.proofs.StillLayers.{along_swept}
use Rattle.hm_check.proofs.Sweeping.{swept_below}
use Rattle.hm_check.proofs.sweep.Sweep.pass_still.Goals.{then-passed-at, else-passed-at}
use Rattle.hm_check.proofs.sweep.Sweep.pass_still.Goals as goal

pub add-requires-clause-below : goal.add-requires-clause-below
add-requires-clause-below c = swept_below c.args.graph.now c.args.prices.now c.args.at.layer c.args.self.now c.every_graph.ensures.few c.requires.swept c.if-not-self.false

pub returns-clause-swept : goal.returns-clause-swept
returns-clause-swept c =
    let passed = c.back_still-passed in
    let steps = c.args.graph.now.steps in
    elim c.if-passed-at.branch [
      | then-passed-at w ↦ subst (IsSwept c.args.graph.now c.args.prices.now passed.result.front.layer) (sym w.self-is)
          (along_swept c.args.graph.now c.args.prices.now c.args.at.layer passed.result.front.layer passed.result.len c.args.self.now w.add.new.self c.every_graph.ensures.graph.low (passed.ensures.first (omega (arith, c.if-at-eq0.false)))
          passed.ensures.layer c.requires.within (subst (λ w. AreStillOver c.args.graph.now.source.format (drop passed.result.front.layer steps) (c.args.at.layer - passed.result.front.layer) w passed.result.len) (c.len.ensures ∙ c.args.self.now.next_row.ok.0) passed.ensures.still) c.if-not-self.false c.requires.swept
          w.add.ensures.at w.add.ensures.found w.add.ensures.next_row)
      | else-passed-at w ↦ let same : c.args.at.layer ≡ passed.result.front.layer = omega (arith, w.if-passed-at.false, passed.ensures.layer) in
          subst (IsSwept c.args.graph.now c.args.prices.now passed.result.front.layer) (sym w.self-is) (subst (λ k. IsSwept c.args.graph.now c.args.prices.now k c.args.self.now) same c.requires.swept)
    ]
