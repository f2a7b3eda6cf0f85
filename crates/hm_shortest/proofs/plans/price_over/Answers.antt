use Rattle.std.proofs.Common.{◌+◌, ◌<◌, ◌^◌, length, map, sym, subst}
use Rattle.std.proofs.lemmas.Bool.Decides.{Decides-ltb}
use Rattle.hm_cert.specs.Layout.{told}
use Rattle.hm_cert.specs.Rows.{IsBelow}
use Rattle.hm_cert.proofs.Below.{below_in}
use Rattle.hm_shortest.proofs.Prices.{told_at}
use Rattle.hm_shortest.proofs.plans.price_over.Goals as goal

pub more-requires-clause-below : goal.more-requires-clause-below
more-requires-clause-below c =
    let inside : c.args.hop.to < length c.args.next_row.now = (Decides-ltb c.args.hop.to (length c.args.next_row.now)).0 (sym c.in-Some.ensures.lookup.0) in
    subst (IsBelow (2 ^ 63 + 2 ^ 62)) (told_at c.args.next_row.now c.args.hop.to c.in-Some.price.now inside c.in-Some.ensures.lookup.1) (below_in (map told c.args.next_row.now) (2 ^ 63 + 2 ^ 62) c.args.hop.to c.requires.below)
