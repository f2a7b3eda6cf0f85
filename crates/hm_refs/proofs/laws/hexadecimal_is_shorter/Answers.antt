use Rattle.hm_refs.proofs.Shortest.{shorter}
use Rattle.hm_refs.proofs.laws.hexadecimal_is_shorter.Goals as goal

pub returns : goal.returns
returns c = shorter
