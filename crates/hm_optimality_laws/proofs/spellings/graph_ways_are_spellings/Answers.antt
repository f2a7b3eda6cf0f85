use Rattle.hm_optimality_laws.proofs.Best.{graph_ways_spell, spellings_have_graph_ways, trees_have_graph_ways}
use Rattle.hm_optimality_laws.proofs.spellings.graph_ways_are_spellings.Goals as goal

pub returns-clause-spell : goal.returns-clause-spell
returns-clause-spell c = graph_ways_spell

pub returns-clause-spellings : goal.returns-clause-spellings
returns-clause-spellings c = spellings_have_graph_ways

pub returns-clause-trees : goal.returns-clause-trees
returns-clause-trees c = trees_have_graph_ways
