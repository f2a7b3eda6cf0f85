use Rattle.std.proofs.Common.{◌≡◌, Ok, subst}
use Rattle.hm_refs.specs.Json.{checked}
use Rattle.hm_html_names.proofs.Alike.{html_is}
use Rattle.hm_html_names.proofs.Computing.{is_checked}
use Rattle.hm_html_names.proofs.laws.html_is_checked.Goals as goal

pub returns : goal.returns
returns c = subst (λ t. checked t ≡ Ok t) html_is is_checked
