use Rattle.std.proofs.Common.{string_bytes, sym, arith}
use Rattle.hm_tree.proofs.ChangedLemmas.{has_at, leaves_value, range, row_there}
use Rattle.hm_tree.proofs.NextLemmas.{no_attribute}
use Rattle.hm_tree.proofs.PartLemmas.{is_start}
use Rattle.hm_tree.proofs.editor.Editor.leave_out_value.Goals as goal

pub empty_in_part-requires-clause-inside : goal.empty_in_part-requires-clause-inside
empty_in_part-requires-clause-inside c =
    let i = c.self.inside in
    range (string_bytes i.text) i.attributes.items i.rows.items i.done i.next i.parent c.self.invariant c.args.self.now c.self.view_is c.index-row.result.now c.index-row.ensures (row_there (string_bytes i.text) i.attributes.items i.rows.items i.done i.next i.parent c.self.invariant c.args.self.now c.self.view_is c.args.at c.requires) c.in-Some.own.first c.in-Some.own.count (is_start c.index-row.result.now.part c.in-Some.own (sym c.in-Some.ensures))

pub invariant_of-self : goal.invariant_of-self
invariant_of-self c =
    let i = c.self.inside in
    (leaves_value (string_bytes i.text) i.attributes.items i.rows.items i.done i.next i.parent c.self.invariant c.args.self.now c.self.view_is c.index-row.result.now c.index-row.ensures (row_there (string_bytes i.text) i.attributes.items i.rows.items i.done i.next i.parent c.self.invariant c.args.self.now c.self.view_is c.args.at c.requires) c.in-Some.own.first c.in-Some.own.count (is_start c.index-row.result.now.part c.in-Some.own (sym c.in-Some.ensures)) c.args.at c.requires c.empty_in_part.new.attributes.items c.empty_in_part.ensures).0

pub returns-in-Some : goal.returns-in-Some
returns-in-Some c =
    let i = c.self.inside in
    (leaves_value (string_bytes i.text) i.attributes.items i.rows.items i.done i.next i.parent c.self.invariant c.args.self.now c.self.view_is c.index-row.result.now c.index-row.ensures (row_there (string_bytes i.text) i.attributes.items i.rows.items i.done i.next i.parent c.self.invariant c.args.self.now c.self.view_is c.args.at c.requires) c.in-Some.own.first c.in-Some.own.count (is_start c.index-row.result.now.part c.in-Some.own (sym c.in-Some.ensures)) c.args.at c.requires c.empty_in_part.new.attributes.items c.empty_in_part.ensures).1

pub index-row-requires : goal.index-row-requires
index-row-requires c =
    let i = c.self.inside in
    omega (arith, row_there (string_bytes i.text) i.attributes.items i.rows.items i.done i.next i.parent c.self.invariant c.args.self.now c.self.view_is c.args.at c.requires, i.rows.ok.0)

pub empty_in_part-requires-clause-there : goal.empty_in_part-requires-clause-there
empty_in_part-requires-clause-there c =
    let i = c.self.inside in
    has_at (string_bytes i.text) i.attributes.items i.rows.items i.done i.next i.parent c.self.invariant c.args.self.now c.self.view_is c.index-row.result.now c.index-row.ensures (row_there (string_bytes i.text) i.attributes.items i.rows.items i.done i.next i.parent c.self.invariant c.args.self.now c.self.view_is c.args.at c.requires) c.in-Some.own.first c.in-Some.own.count (is_start c.index-row.result.now.part c.in-Some.own (sym c.in-Some.ensures)) c.args.at c.requires

pub returns-in_default : goal.returns-in_default
returns-in_default c =
    let i = c.self.inside in
    absurd (no_attribute (string_bytes i.text) i.attributes.items i.rows.items i.done i.next i.parent c.self.invariant c.args.self.now c.self.view_is c.index-row.result.now c.index-row.ensures (sym c.in_default.ensures) c.args.at c.requires)
