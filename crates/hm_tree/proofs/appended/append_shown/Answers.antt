use Rattle.std.proofs.Common.{◌≡◌, ◌+◌, ◌++◌, ◌∷◌, [], take, length, string_bytes, ap, ◌∙◌, arith, length-append}
use Rattle.std.proofs.lemmas.List.{take_more}
use Rattle.std.proofs.lemmas.Option.{slice_get_within, get_or_from_slice_get}
use Rattle.hm_base.specs.Walks.{Attribute}
use Rattle.hm_tree.specs.Views.{attributes_shown}
use Rattle.hm_tree.specs.Pieces.{IsAppended}
use Rattle.hm_tree.specs.declared.pieces.AttributePieces.{AttributePieces}
use Rattle.hm_tree.proofs.ShownLemmas.{IsAppended-more, size_from, texts_at}
use Rattle.hm_tree.proofs.appended.append_shown.Goals as goal

pub append-from-requires-clause-room : goal.append-from-requires-clause-room
append-from-requires-clause-room c =
    omega (arith, c.loop-i.invariant.0, size_from (attributes_shown c.args.attrs.now) c.loop-i.i (record { name = c.at.result.0.now; value = c.at.result.1.now }) c.at.ensures)

pub append-from-requires-clause-places : goal.append-from-requires-clause-places
append-from-requires-clause-places c =
    omega (arith, c.loop-i.invariant.1, size_from (attributes_shown c.args.attrs.now) c.loop-i.i (record { name = c.at.result.0.now; value = c.at.result.1.now }) c.at.ensures)

pub append-value-requires-clause-room : goal.append-value-requires-clause-room
append-value-requires-clause-room c =
    omega (arith, c.loop-i.invariant.0, c.append-from.ensures.room, c.append-from.ensures.len, size_from (attributes_shown c.args.attrs.now) c.loop-i.i (record { name = c.at.result.0.now; value = c.at.result.1.now }) c.at.ensures)

pub append-value-requires-clause-places : goal.append-value-requires-clause-places
append-value-requires-clause-places c =
    omega (arith, c.loop-i.invariant.1, ap length c.append-from.ensures.bytes, length-append (string_bytes c.loop-i.text) c.at.result.0.now, size_from (attributes_shown c.args.attrs.now) c.loop-i.i (record { name = c.at.result.0.now; value = c.at.result.1.now }) c.at.ensures)

appended : (c : goal.After-unwrap)
    → IsAppended (string_bytes c.args.text.now) c.args.attributes.now.items (take (c.loop-i.i + 1) (attributes_shown c.args.attrs.now)) (string_bytes c.append-value.new.text)
    (c.loop-i.attributes.items ++ record { from = c.append-from.result.from; middle = c.append-value.result.from; to = c.append-value.result.to } ∷ [])
appended c =
    let a : Attribute = record { name = c.at.result.0.now; value = c.at.result.1.now } in
    let p : AttributePieces = record { from = c.append-from.result.from; middle = c.append-value.result.from; to = c.append-value.result.to } in
    let i = c.loop-i.i in
    let t = string_bytes c.loop-i.text in
    let texts = texts_at (attributes_shown c.args.attrs.now) i a c.len-i-end.ensures.texts c.at.ensures in
    let middle : p.middle ≡ length (t ++ a.name) = c.append-value.ensures.from ∙ ap length c.append-from.ensures.bytes in
    let to : p.to ≡ length (t ++ a.name) + length a.value = c.append-value.ensures.to ∙ ap (λ u. length u + length a.value) c.append-from.ensures.bytes in
    let whole : string_bytes c.append-value.new.text ≡ (t ++ a.name) ++ a.value = c.append-value.ensures.bytes ∙ ap (λ u. u ++ a.value) c.append-from.ensures.bytes in
    let taken : take (i + 1) (attributes_shown c.args.attrs.now) ≡ take i (attributes_shown c.args.attrs.now) ++ a ∷ [] =
    take_more (attributes_shown c.args.attrs.now) i a (slice_get_within (attributes_shown c.args.attrs.now) i a c.at.ensures) ∙ ap (λ b. take i (attributes_shown c.args.attrs.now) ++ b ∷ []) (get_or_from_slice_get (attributes_shown c.args.attrs.now) i a a c.at.ensures) in
    rw (whole, taken)
    (IsAppended-more (string_bytes c.args.text.now) c.args.attributes.now.items (take i (attributes_shown c.args.attrs.now)) t c.loop-i.attributes.items c.loop-i.invariant.4
    a texts.0 texts.1 p c.append-from.ensures.from middle to)

items : (c : goal.After-unwrap) → c.push.new.self.items ≡ c.loop-i.attributes.items ++ record { from = c.append-from.result.from; middle = c.append-value.result.from; to = c.append-value.result.to } ∷ []
items c = rw c.unwrap.ensures at c.push.ensures.items

pub loop-i-preserved : goal.loop-i-preserved
loop-i-preserved c =
    let size = size_from (attributes_shown c.args.attrs.now) c.loop-i.i (record { name = c.at.result.0.now; value = c.at.result.1.now }) c.at.ensures in (
      omega (arith, c.loop-i.invariant.0, c.append-from.ensures.room, c.append-from.ensures.len, c.append-value.ensures.room, c.append-value.ensures.len, size),
      omega (
        arith,
        c.loop-i.invariant.1,
        ap length c.append-from.ensures.bytes,
        length-append (string_bytes c.loop-i.text) c.at.result.0.now,
        ap length c.append-value.ensures.bytes,
        length-append (string_bytes c.append-from.new.text) c.at.result.1.now,
        size,
      ),
      omega (arith, c.loop-i.invariant.2, c.push.ensures.capacity, c.push.ensures.upper_bound, c.loop-i-test.true, c.len-i-end.ensures.len),
      omega (arith, c.loop-i.invariant.3, ap length (items c), length-append c.loop-i.attributes.items (record { from = c.append-from.result.from; middle = c.append-value.result.from; to = c.append-value.result.to } ∷ []), c.loop-i-test.true, c.len-i-end.ensures.len),
      rw (items c) (appended c),
    )
