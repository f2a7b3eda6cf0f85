use Rattle.std.proofs.Common.{arith}
use Rattle.hm_cert.proofs.PriceTexts.{digit_more, digit_small, other_byte}
use Rattle.hm_cert.proofs.lines.read_number.Goals as goal

pub returns-then-not-is_ascii_digit : goal.returns-then-not-is_ascii_digit
returns-then-not-is_ascii_digit c = λ d. absurd (other_byte c.args.word.now c.loop-byte.byte-index c.loop-byte-test.true c.if-not-is_ascii_digit.ensures.value d)

pub overflow_mul-number : goal.overflow_mul-number
overflow_mul-number c =
    let small = digit_small c.args.word.now c.loop-byte.byte-index c.loop-byte.number c.loop-byte-test.true c.requires c.loop-byte.invariant in
    omega (arith, small)

pub overflow_add-number : goal.overflow_add-number
overflow_add-number c =
    let small = digit_small c.args.word.now c.loop-byte.byte-index c.loop-byte.number c.loop-byte-test.true c.requires c.loop-byte.invariant in
    let more = digit_more c.args.word.now c.loop-byte.byte-index c.loop-byte.number c.from.result c.loop-byte-test.true c.loop-byte.invariant c.if-not-is_ascii_digit.ensures.value c.from.ensures in
    omega (arith, small, more.0)

pub loop-byte-preserved : goal.loop-byte-preserved
loop-byte-preserved c =
    (digit_more c.args.word.now c.loop-byte.byte-index c.loop-byte.number c.from.result c.loop-byte-test.true c.loop-byte.invariant c.if-not-is_ascii_digit.ensures.value c.from.ensures).1
