use Rattle.std.proofs.Common.{◌≡◌, ◌≤◌, ◌-◌, ◌++◌, drop, length, take}
use Rattle.hm_base.specs.Bytes.{front, is_space, rest_after}
use Rattle.hm_base.proofs.spaces.leading_space.Given as goal

abbrev pub invariant-loop-at : goal.invariant-loop-at
invariant-loop-at l = record {
  inside : l.at ≤ length l.bytes;
  space : front is_space l.bytes ≡ take l.at l.bytes ++ front is_space (drop l.at l.bytes);
  rest : rest_after is_space (drop l.at l.bytes) ≡ rest_after is_space l.bytes;
}

abbrev pub decreases-loop-at : goal.decreases-loop-at
decreases-loop-at l = length l.bytes - l.at
