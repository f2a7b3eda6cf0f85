use Rattle.std.proofs.Common.{string_bytes, refl}
use Rattle.hm_tree.proofs.TableLemmas.{part_event, part_shows}
use Rattle.hm_tree.proofs.table.EventTable.event.Goals as goal

pub show-requires : goal.show-requires
show-requires c =
    rw (c.as_str.ensures.value, c.as_slice.ensures.value)
    (part_shows (string_bytes c.self.inside.text) c.self.inside.attributes.items c.self.inside.rows.items c.args.self.now c.self.view_is c.args.i c.requires c.self.invariant c.index-row.result.now c.index-row.ensures)

pub returns : goal.returns
returns c =
    rw (c.show.ensures, c.as_str.ensures.value, c.as_slice.ensures.value)
    (part_event (string_bytes c.self.inside.text) c.self.inside.attributes.items c.self.inside.rows.items c.args.self.now c.self.view_is c.args.i c.requires c.self.invariant c.index-row.result.now c.index-row.ensures c.index-row.result.now.part refl)
