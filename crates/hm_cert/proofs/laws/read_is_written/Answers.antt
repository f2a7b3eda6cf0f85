use Rattle.hm_cert.proofs.Read as law
use Rattle.hm_cert.proofs.laws.read_is_written.Goals as goal

pub returns : goal.returns
returns c = law.read_is_written
