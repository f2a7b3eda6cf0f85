use Rattle.std.proofs.Common.{arith, sym, ◌∙◌}
use Rattle.hm_options.proofs.Passing.{count_begins, count_ends, count_more, count_stops}
use Rattle.hm_options.proofs.joining.loose_after.Goals as goal

pub loop-count-init : goal.loop-count-init
loop-count-init c = count_begins c.args.editor.now.left

pub loop-count-preserved : goal.loop-count-preserved
loop-count-preserved c = omega (arith, c.loop-count.invariant, count_more c.args.editor.now.left c.loop-count.count (sym c.is_loose_at.ensures ∙ c.if-not-is_loose_at.false))

pub returns-then-not-is_loose_at : goal.returns-then-not-is_loose_at
returns-then-not-is_loose_at c = omega (arith, c.loop-count.invariant, c.loop-count.auto.count, count_stops c.args.editor.now.left c.loop-count.count (sym c.is_loose_at.ensures ∙ c.if-not-is_loose_at.true))

pub returns : goal.returns
returns c = omega (arith, c.loop-count.invariant, count_ends c.loop-count.count c.args.editor.now.left (omega (arith, c.left-left.ensures.left, c.loop-count-test.false)), c.left-left.ensures.left, c.requires, c.loop-count.auto.count-end (omega (arith, c.left-left.ensures.left, c.requires)), c.loop-count-test.false)
