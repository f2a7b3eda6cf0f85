use Rattle.std.proofs.Common.{◌-◌, drop, length, arith, length-drop, length-take}
use Rattle.hm_cert.proofs.KeptDigits.{line_put, price_put, price_room}
use Rattle.hm_cert.proofs.reversed.put_prices.Goals as goal

pub loop-k-preserved : goal.loop-k-preserved
loop-k-preserved c =
    let l = c.loop-k in
    let more = drop (length l.line - l.at) (drop l.at l.line) in
    let put = c.in_ok-at.ensures in
    record {
      room = price_room l.line c.put.new.line more l.at c.in_ok-at.field-0 l.k (l.k - 1) (omega (arith, c.loop-k-test.true)) l.invariant.room (omega (arith, c.put.auto.line, length-take (length l.line - l.at) (drop l.at l.line), length-drop l.at l.line)) put.few;
      put = price_put c.args.row.now l.line c.put.new.line more l.at c.in_ok-at.field-0 l.k (l.k - 1) (omega (arith, l.invariant.room)) (omega (arith, c.loop-k-test.true)) (omega (arith, c.loop-k-test.true, l.auto.k)) l.invariant.put put;
    }

pub returns-clause-line : goal.returns-clause-line
returns-clause-line c = line_put c.args.row.now c.loop-k.line c.loop-k.at c.loop-k.k c.requires.some c.loop-k-test.false c.loop-k.invariant.put
