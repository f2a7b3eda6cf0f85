use Rattle.hm_graph_laws.proofs.TextWays.{spellings_have_ways}
use Rattle.hm_graph_laws.proofs.characters.spellings_have_ways.Goals as goal

pub returns : goal.returns
returns c = spellings_have_ways
