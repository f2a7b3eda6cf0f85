use Rattle.std.proofs.Common.{string_bytes, sym, ◌+◌, arith}
use Rattle.hm_tree.proofs.EditorLemmas.{left_shows, none_left, shows_left}
use Rattle.hm_tree.proofs.editor.Editor.ahead.Goals as goal

pub show-requires : goal.show-requires
show-requires c =
    let i = c.self.inside in
    rw (c.as_str.ensures.value, c.as_slice.ensures.value)
    (left_shows (string_bytes i.text) i.attributes.items i.rows.items i.done i.next i.parent c.self.invariant c.args.count (i.next + c.args.count) (omega arith) c.index-row.result.now (omega (arith, c.if-at-len.true, c.len.ensures, i.rows.ok.0)) c.index-row.ensures)

pub returns-then-at-len : goal.returns-then-at-len
returns-then-at-len c =
    let i = c.self.inside in
    rw (c.show.ensures, c.as_str.ensures.value, c.as_slice.ensures.value)
    (sym (shows_left (string_bytes i.text) i.attributes.items i.rows.items i.done i.next i.parent c.self.invariant c.args.self.now c.self.view_is c.args.count (i.next + c.args.count) (omega arith) c.index-row.result.now (omega (arith, c.if-at-len.true, c.len.ensures, i.rows.ok.0)) c.index-row.ensures))

pub returns-else-at-len : goal.returns-else-at-len
returns-else-at-len c =
    let i = c.self.inside in
    sym (none_left (string_bytes i.text) i.attributes.items i.rows.items i.done i.next i.parent c.self.invariant c.args.self.now c.self.view_is c.args.count (i.next + c.args.count) (omega arith) (omega (arith, c.if-at-len.false, c.len.ensures, i.rows.ok.0)))
