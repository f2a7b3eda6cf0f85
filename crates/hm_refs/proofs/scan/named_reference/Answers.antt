use Rattle.std.proofs.Common.{length, ap, sym}
use Rattle.hm_refs.proofs.ReferenceReads.{found_named, name_read, name_blocked}
use Rattle.hm_refs.proofs.scan.named_reference.Goals as goal

pub is_blocked-requires : goal.is_blocked-requires
is_blocked-requires c = rw c.name-name.ensures (found_named c.args.table.now.entries c.args.text.now c.in_ok-id.id c.every_table.ensures.names (sym c.in_ok-id.ensures.found)).inside

pub returns-then-is_blocked : goal.returns-then-is_blocked
returns-then-is_blocked c =
    name_blocked c.args.table.now.entries c.args.text.now c.in_ok-id.id c.args.in_value c.is_blocked.result (sym c.in_ok-id.ensures.found) (rw c.name-name.ensures at c.is_blocked.ensures) c.if-is_blocked.true

pub returns : goal.returns
returns c =
    name_read c.args.table.now.entries c.args.text.now c.in_ok-id.id c.args.in_value c.is_blocked.result _ c.every_table.ensures.names (sym c.in_ok-id.ensures.found) (rw c.name-name.ensures at c.is_blocked.ensures) c.if-is_blocked.false c.points.ensures (ap length c.name-name.ensures)
