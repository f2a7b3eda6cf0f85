use Rattle.std.proofs.Common.{◌≡◌, ◌≤◌, ◌++◌, ◌+◌, ◌-◌, ◌∙◌, drop, length, length-drop, length-take, take, ap, arith}
use Rattle.hm_cert.proofs.KeptDigits.{line_added}
use Rattle.hm_cert.proofs.reversed.ReversedText.put_line.Goals as goal

pub returns-in-Some : goal.returns-in-Some
returns-in-Some c =
    let whole = c.deref_mut.result.now in
    let bytes = c.make_room.new.bytes in
    let start = c.self.inside.len in
    let line = c.put_prices.new.line in
    let more = drop (length whole - start) (drop start whole) in
    let size : length whole ≡ bytes.len = ap length c.deref_mut.ensures.value ∙ omega (arith, bytes.ok.0) in
    let fits : start + c.in-Some.len ≤ bytes.len = omega (arith, c.in-Some.ensures.within, c.put_prices.auto.line, length-take (length whole - start) (drop start whole), length-drop start whole, size, c.in_ok-make_room.ensures.room, bytes.ok.0) in
    line_added c.args.row.now c.args.self.now bytes.items whole line more (drop (length (take start whole ++ (line ++ more))) bytes.items) start c.in-Some.len bytes.len
    c.deref_mut.ensures.value (c.in_ok-make_room.ensures.front ∙ c.self.view_is) c.in_ok-make_room.ensures.within c.in-Some.ensures.within fits c.in-Some.ensures.line
