use Rattle.hm_decoder.proofs.Faults.{faults_last}
use Rattle.hm_decoder.proofs.laws.faults_last.Goals as goal

pub returns : goal.returns
returns c = faults_last
