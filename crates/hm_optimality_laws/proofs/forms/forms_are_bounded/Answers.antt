use Rattle.hm_optimality_laws.proofs.FormsBounded.{forms_are_bounded}
use Rattle.hm_optimality_laws.proofs.forms.forms_are_bounded.Goals as goal

pub returns : goal.returns
returns c = forms_are_bounded
