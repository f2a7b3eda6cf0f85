use Rattle.std.proofs.lemmas.List.{take_rest}
use Rattle.hm_scan.proofs.Pieces.{reads_points, reads_slice}
use Rattle.hm_scan.proofs.text.scan_text.Goals as goal

pub returns-in-Some-clause-reads : goal.returns-in-Some-clause-reads
returns-in-Some-clause-reads c =
    reads_points c.args.table.now.entries c.args.rcdata c.args.text.now c.args.at c.in-Some.reference c.utf8.text c.requires.inside (rw (c.as_bytes-bytes.ensures.value, take_rest c.args.text.now c.args.at) at c.in-Some.ensures)

pub returns-clause-reads : goal.returns-clause-reads
returns-clause-reads c =
    reads_slice c.args.table.now.entries c.args.rcdata c.args.text.now c.args.at c.plain_end-to.result c.requires.boundary (rw (c.as_bytes-bytes.ensures.value, take_rest c.args.text.now c.args.at) at c.in_default.ensures) (rw c.as_bytes-bytes.ensures.value at c.plain_end-to.ensures)
