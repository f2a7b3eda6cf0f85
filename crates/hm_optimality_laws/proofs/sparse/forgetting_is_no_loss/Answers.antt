use Rattle.hm_optimality_laws.proofs.Forgetting.{forgetting}
use Rattle.hm_optimality_laws.proofs.sparse.forgetting_is_no_loss.Goals as goal

pub returns : goal.returns
returns c = forgetting
