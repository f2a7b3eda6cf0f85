use Rattle.hm_scan.proofs.Extended.{cdata_extends}
use Rattle.hm_scan.proofs.mark_laws.cdata_extends.Goals as goal

pub returns : goal.returns
returns c = cdata_extends
