use Rattle.hm_graph_laws.proofs.ExchangedTexts.{texts_spare_plain}
use Rattle.hm_graph_laws.proofs.plain_characters.texts_spare_plain.Goals as goal

pub returns : goal.returns
returns c = texts_spare_plain
