use Rattle.hm_scan.proofs.Extended.{doctype_extends}
use Rattle.hm_scan.proofs.mark_laws.doctypes_extend.Goals as goal

pub returns : goal.returns
returns c = doctype_extends
