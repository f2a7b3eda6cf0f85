use Rattle.std.proofs.Common.{ap}
use Rattle.hm_tree.specs.Starts.{own_of}
use Rattle.hm_tree.proofs.PartLemmas.{is_start}
use Rattle.hm_tree.proofs.TableLemmas.{shown_attributes}
use Rattle.hm_tree.proofs.shown.show.Goals as goal

pub of-requires : goal.of-requires
of-requires c =
    rw (c.part_of.ensures, c.from.ensures)
    (shown_attributes c.args.text.now c.args.attributes.now c.args.part c.in-Start.first c.in-Start.count (is_start c.args.part (record { first = c.in-Start.first; count = c.in-Start.count }) (ap own_of c.in-Start.is)) c.requires)
