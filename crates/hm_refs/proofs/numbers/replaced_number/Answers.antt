use Rattle.std.proofs.Common.{◌∙◌, sym, arith}
use Rattle.hm_refs.proofs.NumberLaws.{back_here, back_later}
use Rattle.hm_refs.proofs.numbers.replaced_number.Goals as goal

pub returns-then-point-c : goal.returns-then-point-c
returns-then-point-c c = sym (back_here c.args.c _ c.loop-number.number-index (0, 0) (omega arith) c.if-point-c.true) ∙ c.loop-number.invariant

pub loop-number-preserved : goal.loop-number-preserved
loop-number-preserved c = sym (back_later c.args.c _ c.loop-number.number-index (0, 0) (omega arith) c.if-point-c.false) ∙ c.loop-number.invariant
