use Rattle.std.proofs.Common.{drop, ◌≡◌, ◌≤◌, ◌+◌, ◌-◌, get_or, codes, length, arith, length-drop, ap, sym, ◌∙◌}
use Rattle.std.proofs.lemmas.List.{drop-drop, get_or-drop}
use Rattle.hm_base.specs.Bytes.{cut_at}
use Rattle.hm_scan.specs.Comments.{begins_cdata, read_cdata}
use Rattle.hm_scan.specs.Pieces.{as_slice}
use Rattle.hm_scan.proofs.Searches.{begins_long, begins_reads}
use Rattle.hm_scan.proofs.Places.{slice_read, found_after}
use Rattle.hm_scan.proofs.comments.scan_cdata.Goals as goal

pub up_to_brackets-requires : goal.up_to_brackets-requires
unfolding begins_cdata
up_to_brackets-requires c =
    let long : 9 ≤ length (drop c.args.at c.args.text.now) = begins_long (codes "<![CDATA[") (drop c.args.at c.args.text.now) c.requires.begins in
    let size : length (drop c.args.at c.args.text.now) ≡ length c.args.text.now - c.args.at = length-drop c.args.at c.args.text.now in
    omega (arith, c.as_bytes.ensures.len)

pub returns-in-Some-clause-ok : goal.returns-in-Some-clause-ok
unfolding read_cdata begins_cdata
returns-in-Some-clause-ok c =
    let s = c.args.text.now in
    let at = c.args.at in
    let last : get_or (drop at s) 8 0 ≡ 91 = begins_reads (codes "<![CDATA[") (drop at s) c.requires.begins 8 (omega arith) in
    let place : get_or s (at + 9 - 1) 0 ≡ get_or (drop at s) 8 0 = ap (λ n. get_or s n 0) (omega arith) ∙ sym (get_or-drop at s 8 0) in
    let h = rw c.as_bytes.ensures.value at c.in-Some.ensures in
    let found = found_after s at (at + 9) (cut_at (codes "]]>") (drop (at + 9) s)) c.in-Some.piece (omega arith) (rw (place, last) (omega arith)) h in
    rw (drop-drop 9 at s) (slice_read s c.utf8.text at (cut_at (codes "]]>") (drop (at + 9) s)) c.in-Some.piece found)

pub returns-in-None-clause-err : goal.returns-in-None-clause-err
unfolding read_cdata
returns-in-None-clause-err c = rw (drop-drop 9 c.args.at c.args.text.now) (ap as_slice (rw c.as_bytes.ensures.value at c.in-None.ensures))
