use Rattle.std.proofs.Common.{◌≡◌, ◌+◌, ◌<◌, ◌^◌, length, slice_get, Some, refl, sym, arith}
use Rattle.std.proofs.lemmas.Bool.{ltb-true}
use Rattle.std.proofs.lemmas.Option.{slice_get_read}
use Rattle.hm_check.proofs.Sums.{told_over, number_below}
use Rattle.hm_check.proofs.bounds.price_over.Goals as goal

pub overflow_add-result : goal.overflow_add-result
overflow_add-result c =
    let within : c.args.hop.to < length c.args.next_row.now = ltb-true _ _ (sym c.in-Some.ensures.lookup.0) in
    let there : slice_get c.args.next_row.now c.args.hop.to ≡ Some c.in-Some.price.now = slice_get_read c.args.next_row.now _ c.args.hop.to c.in-Some.price.now refl within c.in-Some.ensures.lookup.1 in
    let below : c.in-Some.price.now < 2 ^ 63 + 2 ^ 62 = number_below c.args.next_row.now c.args.hop.to c.in-Some.price.now (2 ^ 63 + 2 ^ 62) there c.if-price.true c.requires.below in
    omega (arith, below, c.requires.low)

pub returns-in-Some : goal.returns-in-Some
returns-in-Some c =
    let within : c.args.hop.to < length c.args.next_row.now = ltb-true _ _ (sym c.in-Some.ensures.lookup.0) in
    let there : slice_get c.args.next_row.now c.args.hop.to ≡ Some c.in-Some.price.now = slice_get_read c.args.next_row.now _ c.args.hop.to c.in-Some.price.now refl within c.in-Some.ensures.lookup.1 in
    let below : c.in-Some.price.now < 2 ^ 63 + 2 ^ 62 = number_below c.args.next_row.now c.args.hop.to c.in-Some.price.now (2 ^ 63 + 2 ^ 62) there c.if-price.true c.requires.below in
    told_over c.args.next_row.now c.args.hop c.in-Some.price.now there c.if-price.true (λ e. omega (arith, below, c.requires.low, e))
