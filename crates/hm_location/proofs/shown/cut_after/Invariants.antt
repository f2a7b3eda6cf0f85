use Rattle.std.proofs.Common.{◌≡◌}
use Rattle.hm_location.specs.declared.shown.TheConstants.{AFTER_PLACE}
use Rattle.hm_location.specs.Shown.{shown_after}
use Rattle.hm_location.proofs.shown.cut_after.Given as goal

abbrev pub invariant-loop-to : goal.invariant-loop-to
invariant-loop-to l = shown_after l.to l.rest ≡ shown_after AFTER_PLACE l.rest

abbrev pub decreases-loop-to : goal.decreases-loop-to
decreases-loop-to l = l.to
