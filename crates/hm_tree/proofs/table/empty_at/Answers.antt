use Rattle.hm_tree.proofs.FewerLemmas.{emptied_at}
use Rattle.hm_tree.proofs.table.empty_at.Goals as goal

pub returns : goal.returns
returns c = emptied_at c.args.attributes.now c.args.at c.requires
