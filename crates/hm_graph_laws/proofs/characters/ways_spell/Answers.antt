use Rattle.hm_graph_laws.proofs.CharactersSpelled.{ways_spell}
use Rattle.hm_graph_laws.proofs.characters.ways_spell.Goals as goal

pub returns : goal.returns
returns c = ways_spell
