use Rattle.hm_shortest.proofs.Directly.{all_passed, none_passed, one_passed}
use Rattle.hm_shortest.proofs.direct.DirectWay.go_over_each.Goals as goal

pub loop-byte-init : goal.loop-byte-init
loop-byte-init c = none_passed c.args.table.now.entries c.args.step.now c.args.bytes.now c.args.self.now

pub loop-byte-preserved : goal.loop-byte-preserved
loop-byte-preserved c = one_passed c.args.table.now.entries c.args.step.now c.args.bytes.now c.loop-byte.byte-index _ c.args.self.now c.loop-byte.self c.go_over.new.self c.loop-byte-test.true c.loop-byte.invariant c.in_ok-go_over.ensures

pub returns : goal.returns
returns c = all_passed c.args.table.now.entries c.args.step.now c.args.bytes.now c.loop-byte.byte-index c.args.self.now c.loop-byte.self c.loop-byte-test.false c.loop-byte.invariant
