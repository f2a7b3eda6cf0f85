use Rattle.hm_shortest.proofs.Headline.{shortest_is_certified}
use Rattle.hm_shortest.proofs.laws.shortest_is_certified.Goals as goal

pub returns : goal.returns
returns c = shortest_is_certified
