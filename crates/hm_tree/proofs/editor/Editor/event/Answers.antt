use Rattle.std.proofs.Common.{string_bytes, arith}
use Rattle.hm_tree.proofs.EditorLemmas.{row_there, can_show_done, shows_done}
use Rattle.hm_tree.proofs.editor.Editor.event.Goals as goal

pub index-row-requires : goal.index-row-requires
index-row-requires c =
    let i = c.self.inside in
    omega (arith, row_there (string_bytes i.text) i.attributes.items i.rows.items i.done i.next i.parent c.self.invariant c.args.self.now c.self.view_is c.args.i c.requires)

pub show-requires : goal.show-requires
show-requires c =
    let i = c.self.inside in
    rw (c.as_str.ensures.value, c.as_slice.ensures.value)
    (can_show_done (string_bytes i.text) i.attributes.items i.rows.items i.done i.next i.parent c.self.invariant c.args.self.now c.self.view_is c.args.i c.requires c.index-row.result.now c.index-row.ensures)

pub returns : goal.returns
returns c =
    let i = c.self.inside in
    rw (c.show.ensures, c.as_str.ensures.value, c.as_slice.ensures.value)
    (shows_done (string_bytes i.text) i.attributes.items i.rows.items i.done i.next i.parent c.self.invariant c.args.self.now c.self.view_is c.args.i c.requires c.index-row.result.now c.index-row.ensures)
