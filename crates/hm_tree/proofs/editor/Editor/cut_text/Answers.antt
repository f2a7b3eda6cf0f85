use Rattle.std.proofs.Common.{◌+◌, set, string_bytes, refl, arith}
use Rattle.std.proofs.lemmas.Str.{IsUtf8-string_bytes}
use Rattle.hm_tree.specs.Edits.{with_first_cut}
use Rattle.hm_tree.specs.declared.pieces.TextRange.{TextRange}
use Rattle.hm_tree.specs.declared.rows.RowPart.TheVariants.{Text}
use Rattle.hm_tree.proofs.EditorLemmas.{Edits, cuts, cut_small, cut_within}
use Rattle.hm_tree.proofs.NextLemmas.{cut_there, no_cut}
use Rattle.hm_tree.proofs.editor.Editor.cut_text.Goals as goal

pub overflow_cast-text : goal.overflow_cast-text
overflow_cast-text c =
    let i = c.self.inside in
    let small = cut_small (string_bytes i.text) i.attributes.items i.rows.items i.done i.next i.parent c.self.invariant c.args.self.now c.self.view_is c.index-row.result.now c.index-row.ensures c.in-Text.text c.in-Text.raw c.in-Text.is c.args.from c.args.to c.requires in
    omega (arith, small, (cut_within (string_bytes i.text) i.attributes.items i.rows.items i.done i.next i.parent c.self.invariant c.args.self.now c.self.view_is c.index-row.result.now c.index-row.ensures c.in-Text.text c.in-Text.raw c.in-Text.is c.args.from c.args.to c.requires).0)

cut_so : (c : goal.After-self-1)
    → Edits (string_bytes c.self.inside.text) c.self.inside.attributes.items
    (set c.self.inside.rows.items c.self.inside.next (record { part = Text c.in-Text.raw (record { from = c.in-Text.text.from + c.args.from; to = c.in-Text.text.from + c.args.to }); parent = c.index-row.result.now.parent }))
    c.self.inside.done c.self.inside.next c.self.inside.parent (record { done = c.args.self.now.done; left = with_first_cut c.args.from c.args.to c.args.self.now.left })
cut_so c =
    let i = c.self.inside in
    let range : TextRange = record { from = c.in-Text.text.from + c.args.from; to = c.in-Text.text.from + c.args.to } in
    cuts (string_bytes i.text) i.attributes.items i.rows.items i.done i.next i.parent c.self.invariant c.args.self.now c.self.view_is c.index-row.result.now c.index-row.ensures c.in-Text.text c.in-Text.raw c.in-Text.is c.args.from c.args.to c.requires (IsUtf8-string_bytes i.text)
    (record { part = Text c.in-Text.raw range; parent = c.index-row.result.now.parent }) range refl refl

pub invariant_of-self : goal.invariant_of-self
invariant_of-self c = (cut_so c).0

pub returns-in-Text : goal.returns-in-Text
returns-in-Text c = (cut_so c).1

pub index-row-requires : goal.index-row-requires
index-row-requires c =
    let i = c.self.inside in
    omega (arith, cut_there (string_bytes i.text) i.attributes.items i.rows.items i.done i.next i.parent c.self.invariant c.args.self.now c.self.view_is c.args.from c.args.to c.requires, i.rows.ok.0)

pub index_mut-requires : goal.index_mut-requires
index_mut-requires c =
    let i = c.self.inside in
    omega (arith, cut_there (string_bytes i.text) i.attributes.items i.rows.items i.done i.next i.parent c.self.invariant c.args.self.now c.self.view_is c.args.from c.args.to c.requires, i.rows.ok.0)

pub overflow_cast-text-in-Text : goal.overflow_cast-text-in-Text
overflow_cast-text-in-Text c =
    let i = c.self.inside in
    omega (arith, cut_small (string_bytes i.text) i.attributes.items i.rows.items i.done i.next i.parent c.self.invariant c.args.self.now c.self.view_is c.index-row.result.now c.index-row.ensures c.in-Text.text c.in-Text.raw c.in-Text.is c.args.from c.args.to c.requires)

pub returns-in_default : goal.returns-in_default
returns-in_default c =
    let i = c.self.inside in
    absurd (no_cut (string_bytes i.text) i.attributes.items i.rows.items i.done i.next i.parent c.self.invariant c.args.self.now c.self.view_is c.index-row.result.now c.index-row.ensures c.in_default.not-Text c.args.from c.args.to c.requires)
