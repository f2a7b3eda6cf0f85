use Rattle.std.proofs.Common.{Some, ap, sym, ◌∙◌}
use Rattle.hm_json_tree.specs.Pairs.{attribute_at}
use Rattle.hm_json_tree.proofs.Told.{mapped_at}
use Rattle.hm_json_tree.proofs.pairs.pair_at.Goals as goal

pub returns : goal.returns
returns c = mapped_at attribute_at c.args.items.now c.args.i c.index-items-i.result c.requires c.index-items-i.is ∙ ap Some (sym c.pair_of.ensures)
