use Rattle.hm_check.proofs.Following.{all_passed, none_passed, one_passed}
use Rattle.hm_check.proofs.followed.go_over_each.Goals as goal

pub loop-byte-init : goal.loop-byte-init
loop-byte-init c = none_passed c.args.table.now.entries c.args.step.now c.args.bytes.now c.args.way.now

pub loop-byte-preserved : goal.loop-byte-preserved
loop-byte-preserved c = one_passed c.args.table.now.entries c.args.step.now c.args.bytes.now c.loop-byte.byte-index _ c.args.way.now c.loop-byte.way c.go_over.new.way c.loop-byte-test.true c.loop-byte.invariant c.in_ok-go_over.ensures

pub returns : goal.returns
returns c = all_passed c.args.table.now.entries c.args.step.now c.args.bytes.now c.loop-byte.byte-index c.args.way.now c.loop-byte.way c.loop-byte-test.false c.loop-byte.invariant
