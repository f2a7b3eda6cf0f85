use Rattle.hm_elements.proofs.UpFacts.{goes_yields, goes_yields_inside, up_means, up_in_body, left_open_holds}
use Rattle.hm_elements.proofs.laws.end_tags_left_out.Goals as goal

pub returns-clause-is_closed_by_start : goal.returns-clause-is_closed_by_start
returns-clause-is_closed_by_start c = goes_yields

pub returns-clause-yields_inside : goal.returns-clause-yields_inside
returns-clause-yields_inside c = goes_yields_inside

pub returns-clause-follows : goal.returns-clause-follows
returns-clause-follows c = up_means

pub returns-clause-in_body : goal.returns-clause-in_body
returns-clause-in_body c = up_in_body

pub returns-clause-holds : goal.returns-clause-holds
returns-clause-holds c = left_open_holds
