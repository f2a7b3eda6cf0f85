use Rattle.std.proofs.Common.{drop, ◌≡◌, ◌≤◌, ◌-◌, length, arith, length-drop, ap}
use Rattle.hm_scan.specs.Comments.{read_comment, comment_at}
use Rattle.hm_scan.specs.Pieces.{as_comment}
use Rattle.hm_scan.proofs.CommentEnds.{comment_long}
use Rattle.hm_scan.proofs.Places.{comment_read}
use Rattle.hm_scan.proofs.comments.scan_comment.Goals as goal

pub comment_piece-requires : goal.comment_piece-requires
comment_piece-requires c =
    let long : 2 ≤ length (drop c.args.at c.args.text.now) = comment_long (drop c.args.at c.args.text.now) c.requires.begins in
    let size : length (drop c.args.at c.args.text.now) ≡ length c.args.text.now - c.args.at = length-drop c.args.at c.args.text.now in
    record {
      inside = omega (arith, c.as_bytes.ensures.len);
      begins = rw c.as_bytes.ensures.value c.requires.begins;
    }

pub returns-in-Some-clause-ok : goal.returns-in-Some-clause-ok
unfolding read_comment
returns-in-Some-clause-ok c =
    let h = rw c.as_bytes.ensures.value at c.in-Some.ensures.found in
    comment_read c.args.text.now c.utf8.text c.args.at (comment_at (drop c.args.at c.args.text.now)) c.in-Some.piece h

pub returns-in-None-clause-err : goal.returns-in-None-clause-err
unfolding read_comment
returns-in-None-clause-err c = ap as_comment (rw c.as_bytes.ensures.value at c.in-None.ensures.found)

pub returns-in-Some-clause-placed : goal.returns-in-Some-clause-placed
returns-in-Some-clause-placed c = rw c.as_bytes.ensures.value at c.in-Some.ensures.from
