use Rattle.std.proofs.Common.{string_bytes, sym, refl, arith}
use Rattle.hm_tree.specs.Moved.{put_last}
use Rattle.hm_tree.proofs.OwnLemmas.{Shows, row_moved, row_other, row_past}
use Rattle.hm_tree.proofs.PartLemmas.{is_start}
use Rattle.hm_tree.proofs.TableLemmas.{part_inside}
use Rattle.hm_tree.proofs.table.EventTable.put_last.Goals as goal

pub move_in_part-requires-clause-inside : goal.move_in_part-requires-clause-inside
move_in_part-requires-clause-inside c =
    (is_start c.index-row.result.now.part c.in-Some.own (sym c.in-Some.ensures)).within _ _
    (part_inside (string_bytes c.self.inside.text) c.self.inside.attributes.items c.self.inside.rows.items c.args.self.now c.self.view_is c.args.i c.requires c.self.invariant c.index-row.result.now c.index-row.ensures
    c.index-row.result.now.part refl)

moved_so : (c : goal.After-move_in_part) → Shows (string_bytes c.self.inside.text) c.move_in_part.new.attributes.items c.self.inside.rows.items (put_last c.args.self.now c.args.i c.args.at)
moved_so c =
    row_moved (string_bytes c.self.inside.text) c.self.inside.attributes.items c.self.inside.rows.items c.args.self.now c.self.view_is c.args.i c.requires c.self.invariant c.index-row.result.now c.index-row.ensures c.args.at
    c.in-Some.own.first c.in-Some.own.count (is_start c.index-row.result.now.part c.in-Some.own (sym c.in-Some.ensures)) c.move_in_part.new.attributes.items c.move_in_part.ensures

pub invariant_of-self : goal.invariant_of-self
invariant_of-self c = (moved_so c).0

pub returns-then-at-from : goal.returns-then-at-from
returns-then-at-from c = (moved_so c).1

pub returns-else-at-from : goal.returns-else-at-from
returns-else-at-from c =
    sym (row_past (string_bytes c.self.inside.text) c.self.inside.attributes.items c.self.inside.rows.items c.args.self.now c.self.view_is c.args.i c.requires c.self.invariant c.index-row.result.now c.index-row.ensures c.args.at
    c.in-Some.own.first c.in-Some.own.count (is_start c.index-row.result.now.part c.in-Some.own (sym c.in-Some.ensures)) (omega (arith, c.if-at-from.false, c.from.ensures)))

pub returns-in_default : goal.returns-in_default
returns-in_default c =
    sym (row_other (string_bytes c.self.inside.text) c.self.inside.attributes.items c.self.inside.rows.items c.args.self.now c.self.view_is c.args.i c.requires c.self.invariant c.index-row.result.now c.index-row.ensures c.args.at (sym c.in_default.ensures))
