use Rattle.hm_cert.proofs.Written as law
use Rattle.hm_cert.proofs.laws.written_is_read.Goals as goal

pub returns : goal.returns
returns c = law.written_is_read
