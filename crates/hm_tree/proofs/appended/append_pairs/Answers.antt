use Rattle.std.proofs.Common.{◌≡◌, ◌++◌, ◌∷◌, [], length, string_bytes, refl, sym, ap, ◌∙◌, arith, length-append}
use Rattle.hm_tree.specs.Pieces.{texts_of}
use Rattle.hm_tree.proofs.ShownLemmas.{length-texts_of}
use Rattle.hm_tree.proofs.PairLemmas.{AreAppended-none, AreAppended-more, AreAppended-all, length-pairs}
use Rattle.hm_tree.proofs.appended.append_pairs.Goals as goal

pub append-start-requires-clause-room : goal.append-start-requires-clause-room
append-start-requires-clause-room c = omega (arith, c.requires.room, ap length c.text.ensures, length-texts_of c.args.attrs.now)

pub append-start-requires-clause-places : goal.append-start-requires-clause-places
append-start-requires-clause-places c = omega (arith, c.requires.places, ap length c.text.ensures, length-texts_of c.args.attrs.now)

pub loop-pair-init : goal.loop-pair-init
loop-pair-init c =
    let pairs = c.pairs-pair-items.result.now in
    let u = texts_of c.args.attrs.now in
    let count : length pairs ≡ length c.args.attrs.now = sym (length-pairs u pairs) ∙ ap length c.pairs-pair-items.ensures.shown in
    (omega (arith, c.requires.rows, count), omega (arith, c.requires.indices, count), AreAppended-none (string_bytes c.args.text.now) u c.args.attributes.now.items pairs)

pub unwrap-requires : goal.unwrap-requires
unwrap-requires c = c.push.ensures.succeeds (omega (arith, c.loop-pair.invariant.0, c.loop-pair-test.true))

pub loop-pair-preserved : goal.loop-pair-preserved
loop-pair-preserved c =
    let pairs = c.pairs-pair-items.result.now in
    let items : c.push.new.self.items ≡ c.loop-pair.attributes.items ++ c.shifted.result ∷ [] = rw c.unwrap.ensures at c.push.ensures.items in (
      omega (arith, c.loop-pair.invariant.0, c.push.ensures.capacity, c.push.ensures.upper_bound, c.loop-pair-test.true),
      omega (arith, c.loop-pair.invariant.1, ap length items, length-append c.loop-pair.attributes.items (c.shifted.result ∷ []), c.loop-pair-test.true),
      rw items
          (AreAppended-more (string_bytes c.args.text.now) (texts_of c.args.attrs.now) c.args.attributes.now.items c.loop-pair.attributes.items pairs c.loop-pair.pair-index c.shifted.result c.loop-pair.invariant.2 c.loop-pair-test.true
          c.pairs-pair-items.ensures.pieces (rw (← c.append-start.ensures.from) c.shifted.ensures)),
    )

pub returns-clause-appended : goal.returns-clause-appended
returns-clause-appended c =
    AreAppended-all (string_bytes c.args.text.now) (texts_of c.args.attrs.now) (string_bytes c.append-start.new.text) c.args.attributes.now.items c.loop-pair.attributes.items c.pairs-pair-items.result.now c.loop-pair.pair-index c.args.attrs.now
    c.loop-pair.invariant.2 (omega (arith, c.loop-pair-test.false)) refl (c.append-start.ensures.bytes ∙ ap (λ u. string_bytes c.args.text.now ++ u) c.text.ensures) c.pairs-pair-items.ensures.shown
