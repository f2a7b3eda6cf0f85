use Rattle.std.proofs.Common.{◌+◌, ◌^◌, map, sym, ap, subst, arith}
use Rattle.hm_cert.specs.Layout.{told}
use Rattle.hm_cert.specs.Rows.{AreBelow}
use Rattle.hm_shortest.proofs.FromLast.{are_below}
use Rattle.hm_shortest.proofs.plans.Back.pass_alike.Goals as goal

pub add_each-requires-clause-below : goal.add_each-requires-clause-below
add_each-requires-clause-below c =
    let row = map told c.args.self.now.row.items in
    subst (AreBelow (2 ^ 63 + 2 ^ 62)) (sym (ap (map told) c.deref_mut.ensures.value)) (are_below (2 ^ 62) (2 ^ 63 + 2 ^ 62) row (omega arith) c.requires.below)
