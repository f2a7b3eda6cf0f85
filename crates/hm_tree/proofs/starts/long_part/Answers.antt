use Rattle.std.proofs.Common.{◌≡◌, ◌++◌, [], ◌∷◌, length, string_bytes, subst, ap, refl, ◌∙◌}
use Rattle.hm_tree.specs.Pieces.{IsAppended}
use Rattle.hm_tree.specs.Sources.{listed}
use Rattle.hm_tree.specs.declared.pieces.AttributePieces.{AttributePieces}
use Rattle.hm_tree.specs.declared.pieces.TextRange.{TextRange}
use Rattle.hm_tree.proofs.StartLemmas.{IsStartAppended-long}
use Rattle.hm_tree.proofs.starts.long_part.Goals as goal

pub returns-clause-ok : goal.returns-clause-ok
returns-clause-ok c =
    let s = string_bytes c.args.text.now in
    let n = c.args.name.now in
    let t = string_bytes c.append_attributes-first.new.text in
    let new = c.append_attributes-first.new.attributes.items in
    let before = c.args.attributes.now.items in
    let list = listed c.args.attrs.now in
    let name : TextRange = c.append-from.result in
    let piece : AttributePieces = record { from = name.from; middle = name.to; to = name.to } in
    let items : c.push.new.self.items ≡ before ++ piece ∷ [] = rw (c.unwrap.ensures, c.in_ok-reserve.ensures.items) at c.push.ensures.items in
    let appended : IsAppended (s ++ n) (before ++ piece ∷ []) list t new =
    subst (λ u. IsAppended u (before ++ piece ∷ []) list t new) c.append-from.ensures.bytes
    (subst (λ old. IsAppended (string_bytes c.append-from.new.text) old list t new) items c.append_attributes-first.ensures.appended) in
    IsStartAppended-long s n t before new c.args.foreign list c.args.count name piece c.append_attributes-first.result
    c.utf8.name c.requires.texts c.append-from.ensures.from c.append-from.ensures.to refl appended (c.append_attributes-first.ensures.first ∙ ap length items) c.requires.count
