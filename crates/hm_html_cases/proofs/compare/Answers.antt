use Rattle.std.proofs.Common.{refl}
use Rattle.hm_refs.proofs.FirstsLaws.{places_are_inside}
use Rattle.hm_html_cases.proofs.compare.Goals as goal

pub loop-number-init : goal.loop-number-init
loop-number-init c = (places_are_inside _ _ _ _ refl c.names_for-ours.ensures, places_are_inside _ _ _ _ refl c.names_for-theirs.ensures)
