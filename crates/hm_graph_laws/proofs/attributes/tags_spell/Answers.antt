use Rattle.hm_graph_laws.proofs.AttributesSpelled.{tags_spell}
use Rattle.hm_graph_laws.proofs.attributes.tags_spell.Goals as goal

pub returns : goal.returns
returns c = tags_spell
