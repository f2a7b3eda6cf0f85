use Rattle.std.proofs.Common.{string_bytes}
use Rattle.hm_tree.proofs.LooseLemmas.{leaves_comment}
use Rattle.hm_tree.proofs.editor.Editor.leave_out_comment.Goals as goal

pub invariant_of-self : goal.invariant_of-self
invariant_of-self c =
    let i = c.self.inside in
    (leaves_comment (string_bytes i.text) i.attributes.items i.rows.items i.done i.next i.parent c.self.invariant c.args.self.now c.self.view_is c.requires.comment c.requires.apart).0

pub returns : goal.returns
returns c =
    let i = c.self.inside in
    (leaves_comment (string_bytes i.text) i.attributes.items i.rows.items i.done i.next i.parent c.self.invariant c.args.self.now c.self.view_is c.requires.comment c.requires.apart).1
