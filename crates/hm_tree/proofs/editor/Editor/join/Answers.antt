use Rattle.std.proofs.Common.{◌+◌, set, string_bytes, sym, refl, arith}
use Rattle.hm_tree.specs.Edits.{with_joined}
use Rattle.hm_tree.specs.declared.rows.RowPart.TheVariants.{Text}
use Rattle.hm_tree.proofs.EditorLemmas.{Edits}
use Rattle.hm_tree.proofs.LooseLemmas.{joins, row_within, there_to_join}
use Rattle.hm_tree.proofs.editor.Editor.join.Goals as goal

join_so : (c : goal.After-self-2-1)
    → Edits (string_bytes c.append_last.new.text) c.self.inside.attributes.items
    (set c.self.inside.rows.items (c.self.inside.next + c.args.count) (record { part = Text c.in-Text.raw c.in_ok-text.text; parent = c.index-row.result.now.parent }))
    c.self.inside.done (c.self.inside.next + c.args.count) c.self.inside.parent (record { done = c.args.self.now.done; left = with_joined c.args.count c.args.text.now c.args.self.now.left })
join_so c =
    let i = c.self.inside in
    let there = there_to_join (string_bytes i.text) i.attributes.items i.rows.items i.done i.next i.parent c.self.invariant c.args.self.now c.self.view_is c.args.count c.args.text.now c.requires in
    joins (string_bytes i.text) i.attributes.items i.rows.items i.done i.next i.parent c.self.invariant c.args.self.now c.self.view_is c.index-row.result.now c.index-row.ensures there c.in-Text.text c.in-Text.raw c.in-Text.is
    c.args.count c.args.text.now c.requires c.utf8.text (string_bytes c.append_last.new.text) (sym c.in_ok-text.ensures.bytes) (record { part = Text c.in-Text.raw c.in_ok-text.text; parent = c.index-row.result.now.parent }) c.in_ok-text.text refl
    c.in_ok-text.ensures.from c.in_ok-text.ensures.to

pub invariant_of-self-2 : goal.invariant_of-self-2
invariant_of-self-2 c = (join_so c).0

pub returns-clause-ok : goal.returns-clause-ok
returns-clause-ok c = (join_so c).1

pub index-row-requires : goal.index-row-requires
index-row-requires c =
    let i = c.self.inside in
    omega (arith, there_to_join (string_bytes i.text) i.attributes.items i.rows.items i.done i.next i.parent c.self.invariant c.args.self.now c.self.view_is c.args.count c.args.text.now c.requires, i.rows.ok.0)

pub overflow_add-self : goal.overflow_add-self
overflow_add-self c =
    let i = c.self.inside in
    omega (arith, row_within (string_bytes i.text) i.attributes.items i.rows.items i.done i.next i.parent c.self.invariant c.args.self.now c.self.view_is c.index-row.result.now c.index-row.ensures (there_to_join (string_bytes i.text) i.attributes.items i.rows.items i.done i.next i.parent c.self.invariant c.args.self.now c.self.view_is c.args.count c.args.text.now c.requires) c.in-Text.text c.in-Text.raw c.in-Text.is c.args.count c.args.text.now c.requires, c.self.invariant.count)

pub index_mut-requires : goal.index_mut-requires
index_mut-requires c =
    let i = c.self.inside in
    omega (arith, row_within (string_bytes i.text) i.attributes.items i.rows.items i.done i.next i.parent c.self.invariant c.args.self.now c.self.view_is c.index-row.result.now c.index-row.ensures (there_to_join (string_bytes i.text) i.attributes.items i.rows.items i.done i.next i.parent c.self.invariant c.args.self.now c.self.view_is c.args.count c.args.text.now c.requires) c.in-Text.text c.in-Text.raw c.in-Text.is c.args.count c.args.text.now c.requires, i.rows.ok.0)
