use Rattle.std.proofs.Common.{arith}
use Rattle.hm_cert.proofs.BackNumbers.{after_more, small_after, sum_fits}
use Rattle.hm_cert.proofs.short.back_number.Goals as goal

pub overflow_mul-number : goal.overflow_mul-number
overflow_mul-number c =
    let small = small_after c.args.text.now c.loop-at.at c.loop-at.number c.loop-at.power c.loop-at.invariant.after (omega (arith, c.loop-at-test.true, c.loop-at.invariant.low)) in
    let more = after_more c.args.text.now c.loop-at.at c.loop-at.number c.loop-at.power c.from.result (omega (arith, c.loop-at-test.true)) (omega (arith, c.loop-at-test.true, c.loop-at.invariant.low)) c.loop-at.invariant.after c.if-not-is_ascii_digit.ensures.value c.from.ensures in
    let fits = sum_fits c.loop-at.number c.from.result c.loop-at.power more.0 small.0 small.1 in
    omega (arith, fits)

pub overflow_add-number : goal.overflow_add-number
overflow_add-number c =
    let small = small_after c.args.text.now c.loop-at.at c.loop-at.number c.loop-at.power c.loop-at.invariant.after (omega (arith, c.loop-at-test.true, c.loop-at.invariant.low)) in
    let more = after_more c.args.text.now c.loop-at.at c.loop-at.number c.loop-at.power c.from.result (omega (arith, c.loop-at-test.true)) (omega (arith, c.loop-at-test.true, c.loop-at.invariant.low)) c.loop-at.invariant.after c.if-not-is_ascii_digit.ensures.value c.from.ensures in
    let fits = sum_fits c.loop-at.number c.from.result c.loop-at.power more.0 small.0 small.1 in
    omega (arith, fits)

pub overflow_mul-power : goal.overflow_mul-power
overflow_mul-power c =
    let small = small_after c.args.text.now c.loop-at.at c.loop-at.number c.loop-at.power c.loop-at.invariant.after (omega (arith, c.loop-at-test.true, c.loop-at.invariant.low)) in
    omega (arith, small.1)

pub loop-at-preserved : goal.loop-at-preserved
loop-at-preserved c = record {
  after =
      (after_more c.args.text.now c.loop-at.at c.loop-at.number c.loop-at.power c.from.result (omega (arith, c.loop-at-test.true)) (omega (arith, c.loop-at-test.true, c.loop-at.invariant.low)) c.loop-at.invariant.after c.if-not-is_ascii_digit.ensures.value c.from.ensures).1;
  low = c.loop-at.invariant.low;
}
