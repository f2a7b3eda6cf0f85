use Rattle.hm_edges.proofs.DigitCounts.{counting_begins, counting_goes_on, less_left}
use Rattle.hm_edges.proofs.lengths.digit_count.Goals as goal

pub loop-left-init : goal.loop-left-init
loop-left-init c = counting_begins c.args.base c.args.number c.ranges.number.fits

pub loop-left-preserved : goal.loop-left-preserved
loop-left-preserved c = counting_goes_on c.args.base c.args.number c.loop-left.count c.loop-left.left c.requires.low c.loop-left-test.true c.loop-left.invariant

pub loop-left-smaller : goal.loop-left-smaller
loop-left-smaller c = less_left c.loop-left.left c.args.base c.requires.low c.loop-left-test.true
