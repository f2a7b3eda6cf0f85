use Rattle.std.proofs.Common.{sym, arith}
use Rattle.std.proofs.lemmas.Grind.{common_steps}
use Rattle.hm_refs.proofs.FirstsLaws.{places_next, no_places}
use Rattle.hm_refs.proofs.firsts.firsts_of.Goals as goal

pub loop-number-init : goal.loop-number-init
loop-number-init c = λ q. rw c.new-firsts.ensures.empty (sym (no_places q))

pub loop-number-preserved : goal.loop-number-preserved
loop-number-preserved c = λ q. grind (arith, common_steps, c.loop-number.invariant q, places_next q c.args.names.now c.loop-number.number _ c.loop-number-test.true c.index-names-number.is)
