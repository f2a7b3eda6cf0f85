use Rattle.hm_optimality_laws.proofs.Best.{ways_spell_trees}
use Rattle.hm_optimality_laws.proofs.spellings.ways_spell_trees.Goals as goal

pub returns : goal.returns
returns c = ways_spell_trees
