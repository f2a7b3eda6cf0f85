use Rattle.std.proofs.Common.{◌++◌, length, string_bytes, subst, refl}
use Rattle.hm_tree.specs.Pieces.{IsAppended}
use Rattle.hm_tree.specs.Sources.{listed}
use Rattle.hm_tree.proofs.StartLemmas.{IsStartAppended-short}
use Rattle.hm_tree.proofs.starts.start_part.Goals as goal

pub returns-clause-ok : goal.returns-clause-ok
returns-clause-ok c =
    let s = string_bytes c.args.text.now in
    let n = c.args.name.now in
    let t = string_bytes c.append_attributes-first.new.text in
    let new = c.append_attributes-first.new.attributes.items in
    let pieces = c.args.attributes.now.items in
    let list = listed c.args.attrs.now in
    let appended : IsAppended (s ++ n) pieces list t new = subst (λ u. IsAppended u pieces list t new) c.append-from.ensures.bytes c.append_attributes-first.ensures.appended in
    IsStartAppended-short s n t pieces new c.args.foreign list (length n) c.args.count c.append-from.result.from c.append_attributes-first.result
    c.utf8.name c.requires.texts c.append-from.ensures.from refl appended c.append_attributes-first.ensures.first c.requires.count
