use Rattle.std.proofs.Common.{◌≡◌, drop, codes, arith, true, false, sym}
use Rattle.std.proofs.lemmas.List.{take_rest}
use Rattle.hm_scan.specs.Comments.{begins, cut_comment}
use Rattle.hm_scan.proofs.CommentEnds.{ended_by, cut_at_greater, cut_at_arrow, cut_further}
use Rattle.hm_scan.proofs.comments.comment_text.Goals as goal

pub returns-then-begins_with : goal.returns-then-begins_with
returns-then-begins_with c =
    let s = c.args.bytes.now in
    let here : begins (codes ">") (drop c.args.from s) ≡ true = sym (rw (take_rest s c.args.from) at c.if-begins_with.ensures) in
    ended_by (codes ">") s c.args.from (cut_comment (drop c.args.from s)) here (omega arith) (omega arith) (omega arith) (cut_at_greater (drop c.args.from s) here)

pub returns-then-begins_with-2 : goal.returns-then-begins_with-2
returns-then-begins_with-2 c =
    let s = c.args.bytes.now in
    let other : begins (codes ">") (drop c.args.from s) ≡ false = sym (rw (take_rest s c.args.from) at c.if-begins_with.ensures) in
    let here : begins (codes "->") (drop c.args.from s) ≡ true = sym (rw (take_rest s c.args.from) at c.if-begins_with-2.ensures) in
    ended_by (codes "->") s c.args.from (cut_comment (drop c.args.from s)) here (omega arith) (omega arith) (omega arith) (cut_at_arrow (drop c.args.from s) other here)

pub returns : goal.returns
returns c =
    let s = c.args.bytes.now in
    let no_greater : begins (codes ">") (drop c.args.from s) ≡ false = sym (rw (take_rest s c.args.from) at c.if-begins_with.ensures) in
    let no_arrow : begins (codes "->") (drop c.args.from s) ≡ false = sym (rw (take_rest s c.args.from) at c.if-begins_with-2.ensures) in
    rw (cut_further (drop c.args.from s) no_greater no_arrow) c.up_to_end.ensures
