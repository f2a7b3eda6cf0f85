use Rattle.hm_scan.proofs.WrittenDoctypes.{doctype_is_read}
use Rattle.hm_scan.proofs.mark_laws.doctypes_are_read.Goals as goal

pub returns : goal.returns
returns c = doctype_is_read
