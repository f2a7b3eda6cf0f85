use Rattle.hm_base.specs.Forms.{is_tag_byte}
use Rattle.hm_refs.specs.Reads.{IsEndOf}
use Rattle.hm_scan.proofs.Boundaries.{name_ends}
use Rattle.hm_scan.proofs.PlainNames.{plain_ends, plain_name}
use Rattle.hm_scan.proofs.tag.name_end.Goals as goal

pub returns-then-is_plain_between-clause-end : goal.returns-then-is_plain_between-clause-end
returns-then-is_plain_between-clause-end c =
    let run : IsEndOf is_tag_byte c.args.text.now c.args.from c.plain_run_end-to.result = rw c.as_bytes-bytes.ensures.value at c.plain_run_end-to.ensures in
    plain_ends c.args.text.now c.args.from c.plain_run_end-to.result run (rw c.as_bytes-bytes.ensures.value at c.is_plain_between.ensures.to c.if-is_plain_between.true) (rw c.as_bytes-bytes.ensures.value at c.is_plain_between.ensures.ends c.if-is_plain_between.true)

pub returns-then-is_plain_between-clause-boundary : goal.returns-then-is_plain_between-clause-boundary
returns-then-is_plain_between-clause-boundary c =
    let run : IsEndOf is_tag_byte c.args.text.now c.args.from c.plain_run_end-to.result = rw c.as_bytes-bytes.ensures.value at c.plain_run_end-to.ensures in
    name_ends c.args.text.now c.args.from c.plain_run_end-to.result
    (plain_ends c.args.text.now c.args.from c.plain_run_end-to.result run (rw c.as_bytes-bytes.ensures.value at c.is_plain_between.ensures.to c.if-is_plain_between.true) (rw c.as_bytes-bytes.ensures.value at c.is_plain_between.ensures.ends c.if-is_plain_between.true))

pub returns-then-is_plain_between-clause-plain : goal.returns-then-is_plain_between-clause-plain
returns-then-is_plain_between-clause-plain c = λ plain.
    let run : IsEndOf is_tag_byte c.args.text.now c.args.from c.plain_run_end-to.result = rw c.as_bytes-bytes.ensures.value at c.plain_run_end-to.ensures in
    plain_name c.args.text.now c.args.from c.plain_run_end-to.result run (c.is_plain_between.ensures.from c.if-is_plain_between.true) (rw c.as_bytes-bytes.ensures.value at c.is_plain_between.ensures.begins c.if-is_plain_between.true)

pub returns-clause-boundary : goal.returns-clause-boundary
returns-clause-boundary c = name_ends c.args.text.now c.args.from c.run_end.result (rw c.as_bytes-bytes.ensures.value at c.run_end.ensures)
