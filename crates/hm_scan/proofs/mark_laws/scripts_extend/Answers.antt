use Rattle.hm_scan.proofs.ScriptLaws.{script_extends}
use Rattle.hm_scan.proofs.mark_laws.scripts_extend.Goals as goal

pub returns : goal.returns
returns c = script_extends
