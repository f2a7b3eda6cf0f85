use Rattle.std.proofs.Common.{string_bytes, arith}
use Rattle.hm_tree.proofs.EditorLemmas.{next_there, left_shows, shows_left}
use Rattle.hm_tree.proofs.editor.Editor.next.Goals as goal

pub index-row-requires : goal.index-row-requires
index-row-requires c =
    let i = c.self.inside in
    omega (arith, next_there (string_bytes i.text) i.attributes.items i.rows.items i.done i.next i.parent c.self.invariant c.args.self.now c.self.view_is c.requires)

pub show-requires : goal.show-requires
show-requires c =
    let i = c.self.inside in
    let there = next_there (string_bytes i.text) i.attributes.items i.rows.items i.done i.next i.parent c.self.invariant c.args.self.now c.self.view_is c.requires in
    rw (c.as_str.ensures.value, c.as_slice.ensures.value)
    (left_shows (string_bytes i.text) i.attributes.items i.rows.items i.done i.next i.parent c.self.invariant 0 i.next (omega arith) c.index-row.result.now there c.index-row.ensures)

pub returns : goal.returns
returns c =
    let i = c.self.inside in
    let there = next_there (string_bytes i.text) i.attributes.items i.rows.items i.done i.next i.parent c.self.invariant c.args.self.now c.self.view_is c.requires in
    rw (c.show.ensures, c.as_str.ensures.value, c.as_slice.ensures.value)
    (shows_left (string_bytes i.text) i.attributes.items i.rows.items i.done i.next i.parent c.self.invariant c.args.self.now c.self.view_is 0 i.next (omega arith) c.index-row.result.now there c.index-row.ensures)
