use Rattle.std.proofs.Common.{refl}
use Rattle.hm_elements.specs.Numbers.{names}
use Rattle.hm_elements.proofs.name.names.Goals as goal

pub returns-clause-names : goal.returns-clause-names
unfolding names
returns-clause-names c = refl
