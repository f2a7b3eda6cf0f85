use Rattle.std.proofs.Common.{string_bytes}
use Rattle.hm_tree.proofs.EditorLemmas.{leaves_so}
use Rattle.hm_tree.proofs.editor.Editor.leave_out.Goals as goal

pub invariant_of-self : goal.invariant_of-self
invariant_of-self c =
    let i = c.self.inside in
    (leaves_so (string_bytes i.text) i.attributes.items i.rows.items i.done i.next i.parent c.self.invariant c.args.self.now c.self.view_is c.requires).0

pub returns : goal.returns
returns c =
    let i = c.self.inside in
    (leaves_so (string_bytes i.text) i.attributes.items i.rows.items i.done i.next i.parent c.self.invariant c.args.self.now c.self.view_is c.requires).1
