use Rattle.std.proofs.Common.{◌∷◌, ◌+◌, ◌/◌, ◌%◌, reverse, arith}
use Rattle.std.specs.Fmt.{decimal}
use Rattle.std.proofs.lemmas.List.{length-set}
use Rattle.hm_cert.proofs.KeptDigits.{digit_fits, digit_more, kept_of}
use Rattle.hm_cert.proofs.hundreds.KeptDigits.of.Goals as goal

pub bounds-text-len : goal.bounds-text-len
bounds-text-len c = let l = c.loop-rest in omega (arith, digit_fits c.args.number l.len l.rest l.text c.requires.low (omega (arith, l.auto.rest-fits)) l.invariant.size l.invariant.put)

pub overflow_add-len : goal.overflow_add-len
overflow_add-len c = let l = c.loop-rest in omega (arith, digit_fits c.args.number l.len l.rest l.text c.requires.low (omega (arith, l.auto.rest-fits)) l.invariant.size l.invariant.put)

pub loop-rest-preserved : goal.loop-rest-preserved
loop-rest-preserved c =
    let l = c.loop-rest in
    let fits = digit_fits c.args.number l.len l.rest l.text c.requires.low (omega (arith, l.auto.rest-fits)) l.invariant.size l.invariant.put in
    record {
      put = digit_more l.text (32 ∷ 48 ∷ 48 ∷ reverse (decimal (c.args.number / 100))) l.len l.rest c.loop-rest-test.true (omega (arith, l.auto.rest-fits)) (omega (arith, fits, l.invariant.size)) l.invariant.put;
      size = omega (arith, length-set l.text l.len (48 + l.rest % 10), l.invariant.size);
    }

pub bounds-text-len-2 : goal.bounds-text-len-2
bounds-text-len-2 c = let l = c.loop-rest in omega (arith, digit_fits c.args.number l.len l.rest l.text c.requires.low (omega (arith, l.auto.rest-fits)) l.invariant.size l.invariant.put)

pub overflow_add-result : goal.overflow_add-result
overflow_add-result c = let l = c.loop-rest in omega (arith, digit_fits c.args.number l.len l.rest l.text c.requires.low (omega (arith, l.auto.rest-fits)) l.invariant.size l.invariant.put)

pub invariant_of-result : goal.invariant_of-result
invariant_of-result c =
    let l = c.loop-rest in
    record { kept = kept_of c.args.number l.len l.rest l.text c.requires.some c.requires.low (omega (arith, c.loop-rest-test.false)) l.invariant.size l.invariant.put }
