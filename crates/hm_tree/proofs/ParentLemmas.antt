-- Parents of events as they are kept.
use Rattle.std.proofs.Common.{◌≡◌, ◌≢◌, ℕ, ◌+◌, ◌^◌, ◌<◌, List, length, Option, Some, sym, ◌∙◌, arith}
use Rattle.hm_base.specs.Walks.{Event}
use Rattle.hm_tree.specs.Trees.{innermost}
use Rattle.hm_tree.proofs.OpenLemmas.{innermost_within}

-- no event has the greatest number of four bytes
pub no_last : (w : List Event) (parent : Option ℕ) → parent ≡ innermost w → length w + 1 < 2 ^ 29 → parent ≢ Some 4294967295
no_last w parent is room e = omega (arith, innermost_within w 4294967295 (sym e ∙ is), room)
