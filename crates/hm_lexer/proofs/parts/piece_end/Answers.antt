use Rattle.std.proofs.Common.{◌≡◌, ◌+◌, ◌-◌, ◌<◌, ◌≤◌, true, false, drop, length, get_or, arith, sym, length-drop, Some, None}
use Rattle.std.proofs.lemmas.List.{take_rest, get_or-drop}
use Rattle.memchr.specs.Find.{IsFirstByte}
use Rattle.hm_scan.specs.TextPlaces.{is_sign}
use Rattle.hm_scan.proofs.Ends.{sign_low}
use Rattle.hm_lexer.proofs.PieceEnds.{AllStay, piece_to, stay_at, stay_before}
use Rattle.hm_lexer.proofs.parts.piece_end.Goals as goal

pub returns-then-not-stays_plain : goal.returns-then-not-stays_plain
returns-then-not-stays_plain c =
    let t = c.args.table.now.entries in let s = c.args.text.now in let at = c.signs.at in let to = c.signs.at + c.in-Some.found in
    let h : IsFirstByte (is_sign false) (drop at s) (Some c.in-Some.found) = rw (c.as_bytes-bytes.ensures.value, take_rest s at) at c.in-Some.ensures in
    let long : length (drop at s) ≡ length s - at = length-drop at s in
    let inside : to < length s = omega (arith, h.0.high) in
    let sign : is_sign false (get_or s to 0) ≡ true = rw (get_or-drop at s c.in-Some.found 0) at h.1 in
    let stay : AllStay t s c.args.from to = stay_before t s c.args.from at to (omega arith) c.signs.invariant.stay (λ j l o. h.0.before j (omega arith) (omega arith) o) in
    piece_to t s c.args.from to (omega arith) (omega arith) stay (λ l. sym c.if-not-stays_plain.ensures) (λ l. sign_low false (get_or s to 0) sign)

pub signs-preserved : goal.signs-preserved
signs-preserved c =
    let t = c.args.table.now.entries in let s = c.args.text.now in let at = c.signs.at in let to = c.signs.at + c.in-Some.found in
    let h : IsFirstByte (is_sign false) (drop at s) (Some c.in-Some.found) = rw (c.as_bytes-bytes.ensures.value, take_rest s at) at c.in-Some.ensures in
    let long : length (drop at s) ≡ length s - at = length-drop at s in
    let inside : to + 1 ≤ length s = omega (arith, h.0.high) in
    let stay : AllStay t s c.args.from to = stay_before t s c.args.from at to (omega arith) c.signs.invariant.stay (λ j l o. h.0.before j (omega arith) (omega arith) o) in
    record {
      low = omega arith;
      high = inside;
      stay = stay_at t s c.args.from to stay (sym c.if-not-stays_plain.ensures);
    }

pub returns : goal.returns
returns c =
    let t = c.args.table.now.entries in let s = c.args.text.now in let at = c.signs.at in
    let h : IsFirstByte (is_sign false) (drop at s) None = rw (c.as_bytes-bytes.ensures.value, take_rest s at) at c.in_default.ensures in
    let long : length (drop at s) ≡ length s - at = length-drop at s in
    let stay : AllStay t s c.args.from (length s) = stay_before t s c.args.from at (length s) (omega arith) c.signs.invariant.stay (λ j l o. h j (omega arith) (omega arith) o) in
    rw c.as_bytes-bytes.ensures.value (piece_to t s c.args.from (length s) (omega arith) (omega arith) stay (λ l. absurd (omega arith)) (λ l. absurd (omega arith)))
