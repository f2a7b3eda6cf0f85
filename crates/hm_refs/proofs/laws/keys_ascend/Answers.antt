use Rattle.hm_refs.proofs.Members.{json_ascends}
use Rattle.hm_refs.proofs.laws.keys_ascend.Goals as goal

pub returns : goal.returns
returns c = json_ascends
