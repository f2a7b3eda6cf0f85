use Rattle.std.proofs.Common.{◌≡◌, ◌+◌, ◌-◌, ◌≤◌, drop, length, arith, length-drop}
use Rattle.std.proofs.lemmas.List.{take_rest}
use Rattle.hm_scan.specs.Comments.{after_end}
use Rattle.hm_scan.proofs.CommentEnds.{NoEnd, none_before, none_at}
use Rattle.hm_scan.proofs.Searches.{found_end, no_end}
use Rattle.hm_scan.proofs.comments.up_to_end.Goals as goal

pub returns-in-Some-comment_end : goal.returns-in-Some-comment_end
returns-in-Some-comment_end c =
    let s = c.args.bytes.now in
    let at = c.signs.at in
    let to = c.signs.at + c.in-Some.found in
    let h = rw (take_rest s (at + 2)) at c.in-Some.ensures in
    let long : length (drop (at + 2) s) ≡ length s - (at + 2) = length-drop (at + 2) s in
    let inside : to ≤ length s = omega (arith, h.0.high) in
    let none : NoEnd s c.args.from to = none_before s c.args.from at to inside c.signs.invariant.none (λ j l i p. h.0.before j (omega arith) (omega arith) p) in
    found_end after_end s c.args.from to c.in-Some-comment_end.len (omega arith) inside none (rw (take_rest s to) at c.in-Some-comment_end.ensures)

pub signs-preserved : goal.signs-preserved
signs-preserved c =
    let s = c.args.bytes.now in
    let at = c.signs.at in
    let to = c.signs.at + c.in-Some.found in
    let h = rw (take_rest s (at + 2)) at c.in-Some.ensures in
    let long : length (drop (at + 2) s) ≡ length s - (at + 2) = length-drop (at + 2) s in
    let inside : to + 1 ≤ length s = omega (arith, h.0.high) in
    let none : NoEnd s c.args.from to = none_before s c.args.from at to (omega arith) c.signs.invariant.none (λ j l i p. h.0.before j (omega arith) (omega arith) p) in
    record {
      low = omega arith;
      high = inside;
      none = none_at s c.args.from to none (rw (take_rest s to) at c.in_default-comment_end.ensures);
    }

pub returns-in_default : goal.returns-in_default
returns-in_default c =
    let s = c.args.bytes.now in
    let at = c.signs.at in
    let h = rw (take_rest s (at + 2)) at c.in_default.ensures in
    let long : length (drop (at + 2) s) ≡ length s - (at + 2) = length-drop (at + 2) s in
    let none : NoEnd s c.args.from (length s) = none_before s c.args.from at (length s) (omega arith) c.signs.invariant.none (λ j l i p. h j (omega arith) (omega arith) p) in
    no_end after_end s c.args.from none

pub returns : goal.returns
returns c =
    let s = c.args.bytes.now in
    let at = c.signs.at in
    let none : NoEnd s c.args.from (length s) = none_before s c.args.from at (length s) (omega arith) c.signs.invariant.none (λ j l i p. absurd (omega arith)) in
    no_end after_end s c.args.from none
