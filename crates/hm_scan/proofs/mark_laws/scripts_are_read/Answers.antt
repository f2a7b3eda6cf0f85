use Rattle.hm_scan.proofs.ScriptLaws.{script_read}
use Rattle.hm_scan.proofs.mark_laws.scripts_are_read.Goals as goal

pub returns : goal.returns
returns c = λ t some each ends begins. script_read t some each begins ends
