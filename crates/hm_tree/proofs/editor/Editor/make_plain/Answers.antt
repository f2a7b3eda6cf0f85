use Rattle.std.proofs.Common.{false, string_bytes, refl}
use Rattle.hm_tree.specs.declared.rows.RowPart.TheVariants.{Doctype}
use Rattle.hm_tree.proofs.ChangedLemmas.{makes_plain}
use Rattle.hm_tree.proofs.editor.Editor.make_plain.Goals as goal

pub invariant_of-self : goal.invariant_of-self
invariant_of-self c =
    let i = c.self.inside in
    (makes_plain (string_bytes i.text) i.attributes.items i.rows.items i.done i.next i.parent c.self.invariant c.args.self.now c.self.view_is c.requires (record { part = Doctype false; parent = c.index.result.now.parent }) refl).0
