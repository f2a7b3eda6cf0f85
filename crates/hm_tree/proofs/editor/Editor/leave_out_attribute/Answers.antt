use Rattle.std.proofs.Common.{◌-◌, ◌<◌, IfSome, string_bytes, sym, subst, arith}
use Rattle.hm_tree.specs.declared.starts.AttributeRange.{AttributeRange}
use Rattle.hm_tree.proofs.ChangedLemmas.{has_at, leaves_attribute, range, row_there}
use Rattle.hm_tree.proofs.NextLemmas.{no_attribute}
use Rattle.hm_tree.proofs.PartLemmas.{is_start, one_fewer}
use Rattle.hm_tree.proofs.editor.Editor.leave_out_attribute.Goals as goal

pub move_in_part-requires-clause-inside : goal.move_in_part-requires-clause-inside
move_in_part-requires-clause-inside c =
    let i = c.self.inside in
    range (string_bytes i.text) i.attributes.items i.rows.items i.done i.next i.parent c.self.invariant c.args.self.now c.self.view_is c.index-row.result.now c.index-row.ensures (row_there (string_bytes i.text) i.attributes.items i.rows.items i.done i.next i.parent c.self.invariant c.args.self.now c.self.view_is c.args.at c.requires) c.in-Some.own.first c.in-Some.own.count (is_start c.index-row.result.now.part c.in-Some.own (sym c.in-Some.ensures))

pub invariant_of-self : goal.invariant_of-self
invariant_of-self c =
    let i = c.self.inside in
    (leaves_attribute (string_bytes i.text) i.attributes.items i.rows.items i.done i.next i.parent c.self.invariant c.args.self.now c.self.view_is c.index-row.result.now c.index-row.ensures (row_there (string_bytes i.text) i.attributes.items i.rows.items i.done i.next i.parent c.self.invariant c.args.self.now c.self.view_is c.args.at c.requires) c.in-Some.own.first c.in-Some.own.count (is_start c.index-row.result.now.part c.in-Some.own (sym c.in-Some.ensures)) c.args.at c.requires c.move_in_part.new.attributes.items c.move_in_part.ensures (record { part = c.fewer.result; parent = c.index-row.result.now.parent }) (c.in-Some.own.count - 1) (omega (arith, has_at (string_bytes i.text) i.attributes.items i.rows.items i.done i.next i.parent c.self.invariant c.args.self.now c.self.view_is c.index-row.result.now c.index-row.ensures (row_there (string_bytes i.text) i.attributes.items i.rows.items i.done i.next i.parent c.self.invariant c.args.self.now c.self.view_is c.args.at c.requires) c.in-Some.own.first c.in-Some.own.count (is_start c.index-row.result.now.part c.in-Some.own (sym c.in-Some.ensures)) c.args.at c.requires)) (rw c.fewer.ensures (one_fewer c.index-row.result.now.part c.in-Some.own (sym c.in-Some.ensures)))).0

pub returns-in-Some : goal.returns-in-Some
returns-in-Some c =
    let i = c.self.inside in
    (leaves_attribute (string_bytes i.text) i.attributes.items i.rows.items i.done i.next i.parent c.self.invariant c.args.self.now c.self.view_is c.index-row.result.now c.index-row.ensures (row_there (string_bytes i.text) i.attributes.items i.rows.items i.done i.next i.parent c.self.invariant c.args.self.now c.self.view_is c.args.at c.requires) c.in-Some.own.first c.in-Some.own.count (is_start c.index-row.result.now.part c.in-Some.own (sym c.in-Some.ensures)) c.args.at c.requires c.move_in_part.new.attributes.items c.move_in_part.ensures (record { part = c.fewer.result; parent = c.index-row.result.now.parent }) (c.in-Some.own.count - 1) (omega (arith, has_at (string_bytes i.text) i.attributes.items i.rows.items i.done i.next i.parent c.self.invariant c.args.self.now c.self.view_is c.index-row.result.now c.index-row.ensures (row_there (string_bytes i.text) i.attributes.items i.rows.items i.done i.next i.parent c.self.invariant c.args.self.now c.self.view_is c.args.at c.requires) c.in-Some.own.first c.in-Some.own.count (is_start c.index-row.result.now.part c.in-Some.own (sym c.in-Some.ensures)) c.args.at c.requires)) (rw c.fewer.ensures (one_fewer c.index-row.result.now.part c.in-Some.own (sym c.in-Some.ensures)))).1

pub index-row-requires : goal.index-row-requires
index-row-requires c =
    let i = c.self.inside in
    omega (arith, row_there (string_bytes i.text) i.attributes.items i.rows.items i.done i.next i.parent c.self.invariant c.args.self.now c.self.view_is c.args.at c.requires, i.rows.ok.0)

pub move_in_part-requires-clause-there : goal.move_in_part-requires-clause-there
move_in_part-requires-clause-there c =
    let i = c.self.inside in
    has_at (string_bytes i.text) i.attributes.items i.rows.items i.done i.next i.parent c.self.invariant c.args.self.now c.self.view_is c.index-row.result.now c.index-row.ensures (row_there (string_bytes i.text) i.attributes.items i.rows.items i.done i.next i.parent c.self.invariant c.args.self.now c.self.view_is c.args.at c.requires) c.in-Some.own.first c.in-Some.own.count (is_start c.index-row.result.now.part c.in-Some.own (sym c.in-Some.ensures)) c.args.at c.requires

pub fewer-requires : goal.fewer-requires
fewer-requires c =
    let i = c.self.inside in
    subst (λ o. IfSome o (λ (own : AttributeRange). 0 < own.count)) c.in-Some.ensures (omega (arith, has_at (string_bytes i.text) i.attributes.items i.rows.items i.done i.next i.parent c.self.invariant c.args.self.now c.self.view_is c.index-row.result.now c.index-row.ensures (row_there (string_bytes i.text) i.attributes.items i.rows.items i.done i.next i.parent c.self.invariant c.args.self.now c.self.view_is c.args.at c.requires) c.in-Some.own.first c.in-Some.own.count (is_start c.index-row.result.now.part c.in-Some.own (sym c.in-Some.ensures)) c.args.at c.requires))

pub index_mut-requires : goal.index_mut-requires
index_mut-requires c =
    let i = c.self.inside in
    omega (arith, row_there (string_bytes i.text) i.attributes.items i.rows.items i.done i.next i.parent c.self.invariant c.args.self.now c.self.view_is c.args.at c.requires, i.rows.ok.0)

pub returns-in_default : goal.returns-in_default
returns-in_default c =
    let i = c.self.inside in
    absurd (no_attribute (string_bytes i.text) i.attributes.items i.rows.items i.done i.next i.parent c.self.invariant c.args.self.now c.self.view_is c.index-row.result.now c.index-row.ensures (sym c.in_default.ensures) c.args.at c.requires)
