use Rattle.std.proofs.Common.{string_bytes}
use Rattle.hm_tree.proofs.EditorLemmas.{walk_of}
use Rattle.hm_tree.proofs.editor.Editor.left.Goals as goal

pub returns-clause-walk : goal.returns-clause-walk
returns-clause-walk c =
    let i = c.self.inside in
    walk_of (string_bytes i.text) i.attributes.items i.rows.items i.done i.next i.parent c.self.invariant c.args.self.now c.self.view_is
