use Rattle.std.proofs.Common.{◌≡◌, ◌+◌, ◌∷◌, ◌++◌, [], take, refl, ap, arith}
use Rattle.std.proofs.lemmas.List.{take_more}
use Rattle.std.proofs.lemmas.Option.{slice_get_within, get_or_from_slice_get}
use Rattle.hm_base.specs.Walks.{Attribute, attributes_size}
use Rattle.hm_json_tree.proofs.Taken.{attributes_size-push}
use Rattle.hm_json_tree.proofs.reader.with_attributes.Goals as goal

pub loop-i-preserved : goal.loop-i-preserved
loop-i-preserved c =
    let all = c.args.attrs.now in
    let i = c.loop-i.i in
    let a : Attribute = record { name = c.at.result.0.now; value = c.at.result.1.now } in
    let more : take (i + 1) all ≡ take i all ++ a ∷ [] = rw (take_more all i a (slice_get_within all i a c.at.ensures), get_or_from_slice_get all i a a c.at.ensures) refl in
    (omega (arith, c.loop-i.invariant.0, c.in_ok-sum.ensures.sum, c.in_ok-sum-2.ensures.sum, ap attributes_size more, attributes_size-push (take i all) a), c.in_ok-sum-2.ensures.room)
