use Rattle.std.proofs.Common.{arith}
use Rattle.hm_tree.specs.Views.{attributes_shown}
use Rattle.hm_tree.proofs.ShownLemmas.{size_from, size_past}
use Rattle.hm_tree.proofs.appended.shown_len.Goals as goal

pub overflow_add-len-in-loop-i : goal.overflow_add-len-in-loop-i
overflow_add-len-in-loop-i c =
    omega (arith, c.requires, c.loop-i.invariant, size_from (attributes_shown c.args.attrs.now) c.loop-i.i (record { name = c.at.result.0.now; value = c.at.result.1.now }) c.at.ensures)

pub loop-i-preserved : goal.loop-i-preserved
loop-i-preserved c =
    omega (arith, c.loop-i.invariant, size_from (attributes_shown c.args.attrs.now) c.loop-i.i (record { name = c.at.result.0.now; value = c.at.result.1.now }) c.at.ensures)

pub returns : goal.returns
returns c = omega (arith, c.loop-i.invariant, c.loop-i-test.false, c.len-i-end.ensures.len, size_past (attributes_shown c.args.attrs.now) c.loop-i.i (omega (arith, c.loop-i-test.false, c.len-i-end.ensures.len)))
