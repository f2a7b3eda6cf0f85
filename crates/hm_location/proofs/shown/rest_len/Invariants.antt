use Rattle.std.proofs.Common.{◌≡◌, ◌++◌, ◌-◌, ◌≤◌, length, drop, take}
use Rattle.hm_location.specs.Shown.{line_rest}
use Rattle.hm_location.proofs.shown.rest_len.Given as goal

abbrev pub invariant-loop-len : goal.invariant-loop-len
invariant-loop-len l = (l.len ≤ length l.text) × (take l.len l.text ++ line_rest (drop l.len l.text) ≡ line_rest l.text)

abbrev pub decreases-loop-len : goal.decreases-loop-len
decreases-loop-len l = length l.text - l.len
