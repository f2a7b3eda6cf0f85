use Rattle.std.proofs.Common.{◌+◌, ◌^◌, arith}
use Rattle.std.specs.Option.{option_map}
use Rattle.hm_cert.proofs.Below.{one_raised, others_stand, stands_below}
use Rattle.hm_cert.proofs.prices.add_each.Goals as goal

pub more-requires-clause-below : goal.more-requires-clause-below
more-requires-clause-below c = stands_below c.loop-i.row c.args.row.now (2 ^ 63 + 2 ^ 62) c.loop-i.i c.loop-i-test.true c.loop-i.invariant.others c.requires.below

pub loop-i-preserved : goal.loop-i-preserved
loop-i-preserved c =
    let l = c.loop-i in
    record {
      raised = one_raised l.row c.args.row.now l.i c.more.result (option_map (λ q. c.args.len + q)) (omega (arith, c.loop-i-test.true, l.auto.row)) c.loop-i-test.true c.more.ensures l.invariant.raised l.invariant.others;
      others = others_stand l.row c.args.row.now l.i c.more.result l.invariant.others;
    }
