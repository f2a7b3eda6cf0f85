use Rattle.std.proofs.Common.{◌∙◌, sym, arith}
use Rattle.hm_refs.proofs.NumberLaws.{up_here, up_later}
use Rattle.hm_refs.proofs.numbers.replacement.Goals as goal

pub returns-then-number-n : goal.returns-then-number-n
returns-then-number-n c = sym (up_here c.args.n _ c.loop-number.number-index (0, 0) (omega arith) c.if-number-n.true) ∙ c.loop-number.invariant

pub loop-number-preserved : goal.loop-number-preserved
loop-number-preserved c = sym (up_later c.args.n _ c.loop-number.number-index (0, 0) (omega arith) c.if-number-n.false) ∙ c.loop-number.invariant
