use Rattle.hm_check.proofs.Feasible.{price_rules_agree}
use Rattle.hm_check.proofs.laws.price_rules_agree.Goals as goal

pub returns : goal.returns
returns c = price_rules_agree
