use Rattle.hm_cert.proofs.BackNumbers.{ArePricesBetween}
use Rattle.hm_cert.proofs.short.short_row_before.Given as goal

abbrev pub invariant-loop-next : goal.invariant-loop-next
invariant-loop-next l = ArePricesBetween l.text l.front l.end l.into.items

abbrev pub decreases-loop-next : goal.decreases-loop-next
decreases-loop-next l = l.front
