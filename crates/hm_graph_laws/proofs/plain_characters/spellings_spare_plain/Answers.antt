use Rattle.hm_graph_laws.proofs.ExchangedTrees.{spellings_spare_plain}
use Rattle.hm_graph_laws.proofs.plain_characters.spellings_spare_plain.Goals as goal

pub returns : goal.returns
returns c = spellings_spare_plain
