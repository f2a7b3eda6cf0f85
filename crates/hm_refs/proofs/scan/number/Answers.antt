use Rattle.std.proofs.Common.{◌≡◌, take, subst, arith, take_all}
use Rattle.hm_refs.proofs.Digits.{IsNumber, number_more, number_high, number_is}
use Rattle.hm_refs.proofs.scan.number.Goals as goal
use Rattle.hm_refs.proofs.scan.number.Goals.{then-number-le1114111, else-number-le1114111}

pub loop-byte-preserved : goal.loop-byte-preserved
loop-byte-preserved c =
    let base = c.args.base in let i = c.loop-byte.byte-index in
    elim c.if-number-le1114111.branch [
      | then-number-le1114111 w ↦ rw w.number-is (number_more base c.loop-byte.number c.args.digits.now i w.digit.result c.requires.high w.digit.ensures.below c.loop-byte-test.true w.digit.ensures.value w.if-number-le1114111.true c.loop-byte.invariant)
      | else-number-le1114111 w ↦ rw w.number-is (number_high base c.loop-byte.number c.args.digits.now i c.requires.low c.loop-byte-test.true w.if-number-le1114111.false c.loop-byte.invariant)
    ]

pub returns : goal.returns
returns c =
    let all : take c.loop-byte.byte-index c.args.digits.now ≡ c.args.digits.now = take_all c.loop-byte.byte-index c.args.digits.now (omega arith) in
    number_is c.args.base c.loop-byte.number c.args.digits.now (subst (λ ds. IsNumber c.args.base c.loop-byte.number ds) all c.loop-byte.invariant)
