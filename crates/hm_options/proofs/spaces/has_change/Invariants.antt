use Rattle.std.proofs.Common.{◌≡◌, ◌<◌, ℕ, false, get_or}
use Rattle.hm_base.specs.Bytes.{is_space}
use Rattle.hm_options.specs.Fronts.{changes}
use Rattle.hm_options.proofs.spaces.has_change.Given as goal

abbrev pub invariant-loop-i : goal.invariant-loop-i
invariant-loop-i l = l.found ≡ false → (k : ℕ) → k < l.i → changes (is_space (get_or l.earlier k 0)) (get_or l.here k 0) ≡ false
