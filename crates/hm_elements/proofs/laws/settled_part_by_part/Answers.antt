use Rattle.hm_elements.specs.Sample.{sample_settles}
use Rattle.hm_elements.proofs.Chain.{settled_page}
use Rattle.hm_elements.proofs.Gathered.{page_settles}
use Rattle.hm_elements.proofs.laws.settled_part_by_part.Goals as goal

pub returns-clause-has_parts : goal.returns-clause-has_parts
returns-clause-has_parts c = settled_page

pub returns-clause-parts_settle : goal.returns-clause-parts_settle
returns-clause-parts_settle c = page_settles

pub returns-clause-some_walk : goal.returns-clause-some_walk
returns-clause-some_walk c = sample_settles
