use Rattle.std.proofs.Common.{◌+◌, set, string_bytes, refl, ◌∙◌, ap}
use Rattle.hm_tree.specs.Edits.{kept, parent_after}
use Rattle.hm_tree.proofs.EditorLemmas.{Edits, keeps_so, no_last_parent, parent_inside}
use Rattle.hm_tree.proofs.editor.Editor.keep.Goals as goal

pub parent_after-self-inside-requires : goal.parent_after-self-inside-requires
parent_after-self-inside-requires c =
    let i = c.self.inside in
    rw c.as_slice.ensures.value (parent_inside (string_bytes i.text) i.attributes.items i.rows.items i.done i.next i.parent c.self.invariant c.args.self.now c.self.view_is)

pub of-requires : goal.of-requires
of-requires c =
    let i = c.self.inside in
    no_last_parent (string_bytes i.text) i.attributes.items i.rows.items i.done i.next i.parent c.self.invariant c.args.self.now c.self.view_is

keeps_row : (c : goal.After-self-4-1)
    → Edits (string_bytes c.self.inside.text) c.self.inside.attributes.items (set c.self.inside.rows.items c.self.inside.done (record { part = c.index-row.result.now.part; parent = c.of.result })) (c.self.inside.done + 1) (c.self.inside.next + 1)
    c.parent_after-self-inside.result (kept c.args.self.now.done c.args.self.now.left)
keeps_row c =
    let i = c.self.inside in
    keeps_so (string_bytes i.text) i.attributes.items i.rows.items i.done i.next i.parent c.self.invariant c.args.self.now c.self.view_is c.index-row.result.now c.index-row.ensures c.requires
    (record { part = c.index-row.result.now.part; parent = c.of.result }) c.parent_after-self-inside.result refl c.of.ensures
    (c.parent_after-self-inside.ensures ∙ ap (λ rows. parent_after rows i.parent c.index-row.result.now.part i.done) c.as_slice.ensures.value)

pub invariant_of-self : goal.invariant_of-self
invariant_of-self c = (keeps_row c).0

pub returns : goal.returns
returns c = (keeps_row c).1
