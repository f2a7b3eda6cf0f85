use Rattle.std.proofs.Common.{◌≡◌, ◌∙◌, ap, arith, length, sym, take, take_all}
use Rattle.hm_location.proofs.ShownLaws.{back_all, back_ends, back_on, back_zero}
use Rattle.hm_location.proofs.shown.cut_after.Goals as goal
use Rattle.hm_location.proofs.shown.cut_after.Goals.{then-loop-to-test+then-to-rest+else-not-is_char_start, then-loop-to-test+else-to-rest, else-loop-to-test}

pub loop-to-preserved : goal.loop-to-preserved
loop-to-preserved c = sym (back_on c.args.rest.now c.loop-to.to (omega arith) (omega arith) (sym c.is_char_start.ensures ∙ c.if-not-is_char_start.true)) ∙ c.loop-to.invariant

pub returns-clause-shown : goal.returns-clause-shown
returns-clause-shown c =
    let kept = c.min.ensures in
    elim c.loop-to-test.branch [
      | then-loop-to-test+then-to-rest+else-not-is_char_start w ↦
          let k : c.min.result ≡ c.loop-to.to = omega (arith, kept) in
          ap (λ n. take n c.args.rest.now) k ∙ back_ends c.args.rest.now c.loop-to.to (omega arith) (sym w.is_char_start.ensures ∙ w.if-not-is_char_start.false) ∙ c.loop-to.invariant
      | then-loop-to-test+else-to-rest w ↦
          let k : c.min.result ≡ length c.args.rest.now = omega (arith, kept) in
          ap (λ n. take n c.args.rest.now) k ∙ take_all (length c.args.rest.now) c.args.rest.now (omega arith) ∙ back_all c.args.rest.now c.loop-to.to (omega (arith, w.if-to-rest.false)) ∙ c.loop-to.invariant
      | else-loop-to-test w ↦
          let z : c.loop-to.to ≡ 0 = omega (arith, w.loop-to-test.false) in
          let k : c.min.result ≡ 0 = omega (arith, kept) in
          back_zero c.args.rest.now c.loop-to.to c.min.result z k ∙ c.loop-to.invariant
    ]
