use Rattle.hm_scan.proofs.RawTextLaws.{raw_read}
use Rattle.hm_scan.proofs.mark_laws.raw_text_is_read.Goals as goal

pub returns : goal.returns
returns c = λ name t some each ends begins. raw_read name t some each begins ends
