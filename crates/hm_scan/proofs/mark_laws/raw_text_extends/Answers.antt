use Rattle.hm_scan.proofs.RawTextLaws.{raw_extends}
use Rattle.hm_scan.proofs.mark_laws.raw_text_extends.Goals as goal

pub returns : goal.returns
returns c = raw_extends
