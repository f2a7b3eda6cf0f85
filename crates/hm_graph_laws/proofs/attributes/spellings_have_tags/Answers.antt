use Rattle.hm_graph_laws.proofs.AttributeWays.{spellings_have_tags}
use Rattle.hm_graph_laws.proofs.attributes.spellings_have_tags.Goals as goal

pub returns : goal.returns
returns c = spellings_have_tags
