use Rattle.std.proofs.Common.{arith}
use Rattle.hm_scan.proofs.DoctypeForms.{doctype_long, doctype_open, doctype_bad, doctype_read}
use Rattle.hm_scan.proofs.doctypes.scan_doctype.Goals as goal

pub up_to_greater-requires : goal.up_to_greater-requires
up_to_greater-requires c = omega (arith, doctype_long c.args.text.now c.args.at c.requires.begins, c.as_bytes-bytes.ensures.len)

pub returns-in-Some-doctype_form-clause-ok : goal.returns-in-Some-doctype_form-clause-ok
returns-in-Some-doctype_form-clause-ok c =
    doctype_read c.args.text.now c.args.at c.in-Some.piece (rw c.as_bytes-bytes.ensures.value at c.in-Some.ensures) c.in-Some-doctype_form.legacy c.utf8.text
    (rw c.as_bytes-bytes.ensures.value at c.in-Some-doctype_form.ensures)

pub returns-in-None-doctype_form-clause-err : goal.returns-in-None-doctype_form-clause-err
returns-in-None-doctype_form-clause-err c =
    doctype_bad c.args.text.now c.args.at c.in-Some.piece (rw c.as_bytes-bytes.ensures.value at c.in-Some.ensures)
    (rw c.as_bytes-bytes.ensures.value at c.in-None-doctype_form.ensures)

pub returns-in-None-clause-err : goal.returns-in-None-clause-err
returns-in-None-clause-err c = doctype_open c.args.text.now c.args.at (rw c.as_bytes-bytes.ensures.value at c.in-None.ensures)
