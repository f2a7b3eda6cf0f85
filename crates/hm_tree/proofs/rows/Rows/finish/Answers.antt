use Rattle.hm_tree.proofs.TableLemmas.{of_rows}
use Rattle.hm_tree.proofs.rows.Rows.finish.Goals as goal

pub of-requires : goal.of-requires
of-requires c = rw (c.shrink_to_fit.ensures.bytes, c.shrink_to_fit-2.ensures.items, c.shrink_to_fit-3.ensures.items) (of_rows c.self.invariant)
