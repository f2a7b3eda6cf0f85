use Rattle.std.proofs.Common.{refl}
use Rattle.hm_graph.proofs.interned.character_in_front.Goals as goal

pub returns : goal.returns
returns c = refl
