use Rattle.std.proofs.Common.{◌∷◌, [], ap, arith, length, length-append, sym, subst}
use Rattle.hm_graph.specs.Interned.{AreLone, BeginsNoPair}
use Rattle.hm_graph.proofs.PairNames.{marked_more}
use Rattle.hm_graph.proofs.pairs.lone_characters.Goals as goal

pub loop-c-preserved : goal.loop-c-preserved
loop-c-preserved c =
    let t = c.args.table.now.entries in
    let lone = c.loop-c.lone.items in
    record {
      marked = subst (AreLone t) (sym c.in_ok-push.ensures.items)
          (marked_more (BeginsNoPair t) lone c.begins_no_pair.result c.loop-c.invariant.marked (λ is. subst (BeginsNoPair t) (sym c.loop-c.invariant.count) (c.begins_no_pair.ensures is)));
      count = omega (arith, ap length c.in_ok-push.ensures.items, length-append lone (c.begins_no_pair.result ∷ []), c.loop-c.invariant.count);
    }
