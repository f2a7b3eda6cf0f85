use Rattle.std.proofs.Common.{◌≡◌, ◌+◌, ◌-◌, ◌<◌, ◌≤◌, true, drop, length, get_or, arith, sym, length-drop}
use Rattle.std.proofs.lemmas.List.{take_rest, get_or-drop}
use Rattle.hm_scan.specs.TextPlaces.{is_sign}
use Rattle.hm_scan.proofs.Ends.{NoEnd, none_before, none_at, plain_to, sign_low}
use Rattle.hm_scan.proofs.plain_text.plain_end.Goals as goal

pub returns-then-ends_plain : goal.returns-then-ends_plain
returns-then-ends_plain c =
    let t = c.args.table.now.entries in let s = c.args.bytes.now in let at = c.signs.at in let to = c.signs.at + c.in-Some.len in
    let h = c.in-Some.ensures in
    let long : length (drop at s) ≡ length s - at = length-drop at s in
    let inside : to < length s = omega (arith, h.0.high) in
    let sign : is_sign c.args.rcdata (get_or s to 0) ≡ true = rw (get_or-drop at s c.in-Some.len 0) at h.1 in
    let none : NoEnd t c.args.rcdata s c.args.from to = none_before t c.args.rcdata s c.args.from at to (omega arith) c.signs.invariant.none (λ j l o. h.0.before j (omega arith) (omega arith) o) in
    plain_to t c.args.rcdata s c.args.from to (omega arith) (omega arith) none (λ l. sym (rw (take_rest s to) at c.if-ends_plain.ensures)) (λ l. sign_low c.args.rcdata (get_or s to 0) sign)

pub signs-preserved : goal.signs-preserved
signs-preserved c =
    let t = c.args.table.now.entries in let s = c.args.bytes.now in let at = c.signs.at in let to = c.signs.at + c.in-Some.len in
    let h = c.in-Some.ensures in
    let long : length (drop at s) ≡ length s - at = length-drop at s in
    let inside : to + 1 ≤ length s = omega (arith, h.0.high) in
    let none : NoEnd t c.args.rcdata s c.args.from to = none_before t c.args.rcdata s c.args.from at to (omega arith) c.signs.invariant.none (λ j l o. h.0.before j (omega arith) (omega arith) o) in
    record {
      low = omega arith;
      high = inside;
      none = none_at t c.args.rcdata s c.args.from to none (sym (rw (take_rest s to) at c.if-ends_plain.ensures));
    }

pub returns : goal.returns
returns c =
    let t = c.args.table.now.entries in let s = c.args.bytes.now in let at = c.signs.at in
    let h = c.in_default.ensures in
    let long : length (drop at s) ≡ length s - at = length-drop at s in
    let none : NoEnd t c.args.rcdata s c.args.from (length s) = none_before t c.args.rcdata s c.args.from at (length s) (omega arith) c.signs.invariant.none (λ j l o. h j (omega arith) (omega arith) o) in
    plain_to t c.args.rcdata s c.args.from (length s) (omega arith) (omega arith) none (λ l. absurd (omega arith)) (λ l. absurd (omega arith))
