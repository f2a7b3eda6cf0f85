use Rattle.std.proofs.Common.{◌∙◌, ◌≤◌, length, arith}
use Rattle.hm_base.specs.declared.limits.TheConstants.{OUTPUT_LIMIT}
use Rattle.hm_minify.specs.Endings.{format_of}
use Rattle.hm_minify.proofs.Accepted.{certificate_read, no_bad_line, found_yes, found_no}
use Rattle.hm_minify.proofs.measured.check_minified.Goals as goal

pub unreachable-requires : goal.unreachable-requires
unreachable-requires c =
    let good = certificate_read c.args.input.now.table.entries c.args.writing.rules (format_of c.args.writing.sparse) c.args.input.now.tree c.as_slice.result.now (c.as_slice.ensures.value ∙ c.requires.minified.certificate) c.requires.readable in
    no_bad_line c.as_slice.result.now c.in-Err-BadLine.field-0 c.in-Err-BadLine.field-0-0 _ good c.in-Err-BadLine.field-0-is c.in-Err-BadLine.ensures.read

pub unreachable-requires-in-No : goal.unreachable-requires-in-No
unreachable-requires-in-No c =
    let good = certificate_read c.args.input.now.table.entries c.args.writing.rules (format_of c.args.writing.sparse) c.args.input.now.tree c.as_slice.result.now (c.as_slice.ensures.value ∙ c.requires.minified.certificate) c.requires.readable in
    let short : length c.as_slice-2.result.now ≤ OUTPUT_LIMIT = omega (arith, c.if-len.false, c.len.ensures, c.as_slice-2.ensures.len) in
    let yes = found_yes c.args.input.now.table.entries c.every_table.ensures.names c.args.writing.rules (format_of c.args.writing.sparse) c.args.input.now.tree c.requires.settled c.as_slice-2.result.now c.as_slice.result.now c.in-Ok.certificate c.in_ok-check.field-0
    (c.as_slice-2.ensures.value ∙ c.requires.minified.out) short good c.in-Ok.ensures.read.1 c.in_ok-check.ensures in
    found_no c.in_ok-check.field-0 _ c.in-No.why yes c.in-No.is
