use Rattle.std.proofs.Common.{◌-◌, length, refl, arith}
use Rattle.hm_shortest.proofs.Ends.{turning_more}
use Rattle.hm_shortest.proofs.turned.turn.Goals as goal

pub loop-done-preserved : goal.loop-done-preserved
loop-done-preserved c =
    turning_more c.args.bytes.now c.loop-done.bytes c.turn_ends.new.bytes c.loop-done.done (length c.args.bytes.now - c.loop-done.done - c.loop-done.done) c.loop-done.invariant (omega (arith, c.loop-done-test.true)) refl c.turn_ends.ensures
