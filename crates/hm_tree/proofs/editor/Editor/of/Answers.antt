use Rattle.std.proofs.Common.{string_bytes}
use Rattle.hm_tree.proofs.EditorLemmas.{editing_begins}
use Rattle.hm_tree.proofs.editor.Editor.of.Goals as goal

pub invariant_of-result : goal.invariant_of-result
invariant_of-result c =
    let t = c.table.inside in
    editing_begins (string_bytes t.text) t.attributes.items t.rows.items c.table.invariant (rw (← c.table.view_is) at c.requires)
