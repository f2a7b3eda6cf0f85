use Rattle.std.proofs.Common.{◌≡◌, ◌+◌, get_or, arith}
use Rattle.std.proofs.lemmas.Str.{IsCharBoundary-after_ascii}
use Rattle.hm_scan.proofs.TagStarts.{Begins, tag_begins, end_reads, start_reads}
use Rattle.hm_scan.proofs.tag.scan_tag_into.Goals as goal

pub bounds-as_bytes-start : goal.bounds-as_bytes-start
bounds-as_bytes-start c = rw c.as_bytes.ensures.value (tag_begins c.args.text.now c.args.at c.requires.begins).inside

pub scan_end-requires-clause-boundary : goal.scan_end-requires-clause-boundary
scan_end-requires-clause-boundary c =
    let b : Begins c.args.text.now c.args.at = tag_begins c.args.text.now c.args.at c.requires.begins in
    let slash : get_or c.args.text.now (c.args.at + 1) 0 ≡ 47 = rw c.as_bytes.ensures.value at c.if-as_bytes-start-eq47.true in
    let next : c.args.at + 1 + 1 ≡ c.args.at + 2 = omega arith in
    rw (← next) (IsCharBoundary-after_ascii c.args.text.now (c.args.at + 1) c.utf8.text b.inside (omega arith))

pub scan_start-requires-clause-boundary : goal.scan_start-requires-clause-boundary
scan_start-requires-clause-boundary c =
    let b : Begins c.args.text.now c.args.at = tag_begins c.args.text.now c.args.at c.requires.begins in
    IsCharBoundary-after_ascii c.args.text.now c.args.at c.utf8.text (omega (arith, b.inside)) (omega (arith, b.first))

pub returns-then-as_bytes-start-eq47-clause-ok : goal.returns-then-as_bytes-start-eq47-clause-ok
returns-then-as_bytes-start-eq47-clause-ok c =
    rw (end_reads c.args.table.now.entries c.args.text.now c.args.at c.requires.begins (rw c.as_bytes.ensures.value at c.if-as_bytes-start-eq47.true)) c.scan_end.ensures.ok

pub returns-then-as_bytes-start-eq47-clause-err : goal.returns-then-as_bytes-start-eq47-clause-err
returns-then-as_bytes-start-eq47-clause-err c =
    rw (end_reads c.args.table.now.entries c.args.text.now c.args.at c.requires.begins (rw c.as_bytes.ensures.value at c.if-as_bytes-start-eq47.true)) c.scan_end.ensures.err

pub returns-else-as_bytes-start-eq47-clause-ok : goal.returns-else-as_bytes-start-eq47-clause-ok
returns-else-as_bytes-start-eq47-clause-ok c =
    rw (start_reads c.args.table.now.entries c.args.text.now c.args.at c.requires.begins (rw c.as_bytes.ensures.value at c.if-as_bytes-start-eq47.false)) c.scan_start.ensures.ok

pub returns-else-as_bytes-start-eq47-clause-err : goal.returns-else-as_bytes-start-eq47-clause-err
returns-else-as_bytes-start-eq47-clause-err c =
    rw (start_reads c.args.table.now.entries c.args.text.now c.args.at c.requires.begins (rw c.as_bytes.ensures.value at c.if-as_bytes-start-eq47.false)) c.scan_start.ensures.err
