use Rattle.std.proofs.Common.{◌<◌, length, string_bytes, ◌∙◌, arith}
use Rattle.hm_tree.proofs.EditorLemmas.{done_len, parent_done, parent_now}
use Rattle.hm_tree.proofs.OpenLemmas.{parent_of-IsStartAt}
use Rattle.hm_tree.proofs.editor.Editor.parent.Goals as goal

pub returns-then-i-self-clause-value : goal.returns-then-i-self-clause-value
returns-then-i-self-clause-value c =
    let i = c.self.inside in
    parent_now (string_bytes i.text) i.attributes.items i.rows.items i.done i.next i.parent c.self.invariant c.args.self.now c.self.view_is c.args.i c.if-i-self.true

pub returns-then-i-self-clause-element : goal.returns-then-i-self-clause-element
returns-then-i-self-clause-element c =
    let i = c.self.inside in
    rw (parent_now (string_bytes i.text) i.attributes.items i.rows.items i.done i.next i.parent c.self.invariant c.args.self.now c.self.view_is c.args.i c.if-i-self.true) (parent_of-IsStartAt c.args.self.now.done c.args.i)

pub returns-else-i-self-clause-value : goal.returns-else-i-self-clause-value
returns-else-i-self-clause-value c =
    let i = c.self.inside in
    let within : c.args.i < length c.args.self.now.done = omega (arith, c.requires, c.if-i-self.false, done_len (string_bytes i.text) i.attributes.items i.rows.items i.done i.next i.parent c.self.invariant c.args.self.now c.self.view_is) in
    c.index-else-i-self.ensures ∙ parent_done (string_bytes i.text) i.attributes.items i.rows.items i.done i.next i.parent c.self.invariant c.args.self.now c.self.view_is c.args.i within c.index.result.now c.index.ensures

pub returns-else-i-self-clause-element : goal.returns-else-i-self-clause-element
returns-else-i-self-clause-element c =
    let i = c.self.inside in
    let within : c.args.i < length c.args.self.now.done = omega (arith, c.requires, c.if-i-self.false, done_len (string_bytes i.text) i.attributes.items i.rows.items i.done i.next i.parent c.self.invariant c.args.self.now c.self.view_is) in
    rw (c.index-else-i-self.ensures, parent_done (string_bytes i.text) i.attributes.items i.rows.items i.done i.next i.parent c.self.invariant c.args.self.now c.self.view_is c.args.i within c.index.result.now c.index.ensures) (parent_of-IsStartAt c.args.self.now.done c.args.i)
