use Rattle.std.proofs.Common.{◌∙◌, arith}
use Rattle.hm_options.proofs.Passing.{none_left, passing_ends}
use Rattle.hm_options.proofs.rules.rewritten.Goals as goal

pub returns : goal.returns
returns c = c.finish.ensures ∙ passing_ends c.args.options.now c.args.tree c.loop.editor c.loop.invariant.0 (none_left c.loop.editor.left (omega (arith, c.loop.invariant.1, c.loop-test.false))) c.left-2.ensures.walk
