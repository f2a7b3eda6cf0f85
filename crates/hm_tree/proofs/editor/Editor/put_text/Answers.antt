use Rattle.std.proofs.Common.{set, string_bytes, sym, refl}
use Rattle.hm_tree.specs.Edits.{with_first_text}
use Rattle.hm_tree.specs.declared.pieces.TextRange.{TextRange}
use Rattle.hm_tree.specs.declared.rows.RowPart.TheVariants.{Text}
use Rattle.hm_tree.proofs.EditorLemmas.{Edits, puts}
use Rattle.hm_tree.proofs.editor.Editor.put_text.Goals as goal

put_so : (c : goal.After-self-1)
    → Edits (string_bytes c.append_last.new.text) c.self.inside.attributes.items
    (set c.self.inside.rows.items c.self.inside.next (record { part = Text c.in-Text.raw c.in_ok-text.text; parent = c.index-row.result.now.parent }))
    c.self.inside.done c.self.inside.next c.self.inside.parent (record { done = c.args.self.now.done; left = with_first_text c.args.text.now c.args.self.now.left })
put_so c =
    let i = c.self.inside in
    let range : TextRange = c.in_ok-text.text in
    puts (string_bytes i.text) i.attributes.items i.rows.items i.done i.next i.parent c.self.invariant c.args.self.now c.self.view_is c.index-row.result.now c.index-row.ensures c.in-Text.text c.in-Text.raw c.in-Text.is
    c.args.text.now (string_bytes c.append_last.new.text) c.requires c.utf8.text (sym c.in_ok-text.ensures.bytes) (record { part = Text c.in-Text.raw range; parent = c.index-row.result.now.parent }) range refl c.in_ok-text.ensures.from c.in_ok-text.ensures.to

pub invariant_of-self-2 : goal.invariant_of-self-2
invariant_of-self-2 c = (put_so c).0

pub returns-clause-ok : goal.returns-clause-ok
returns-clause-ok c = (put_so c).1
