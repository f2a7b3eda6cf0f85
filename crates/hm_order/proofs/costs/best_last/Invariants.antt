use Rattle.std.proofs.Common.{◌≤◌, length}
use Rattle.hm_order.proofs.Places.{IsBestFrom}
use Rattle.hm_order.proofs.costs.best_last.Given as goal

abbrev pub invariant-loop-place : goal.invariant-loop-place
invariant-loop-place l = record {
  best : IsBestFrom l.costs l.place l.best;
  within : l.place ≤ length l.costs;
}
