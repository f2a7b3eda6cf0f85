use Rattle.hm_elements.proofs.TableFacts.{stands_parent_holds, stands_parent, stands_made, ends_is_other, outer_is_not_deep}
use Rattle.hm_elements.proofs.laws.elements_in_place.Goals as goal

pub returns-clause-parents_hold : goal.returns-clause-parents_hold
returns-clause-parents_hold c = λ n t g h. (stands_parent_holds n t g h, stands_parent n t g h)

pub returns-clause-nothing_is_made : goal.returns-clause-nothing_is_made
returns-clause-nothing_is_made c = stands_made

pub returns-clause-ends_are_others : goal.returns-clause-ends_are_others
returns-clause-ends_are_others c = ends_is_other

pub returns-clause-outer_is_not_deep : goal.returns-clause-outer_is_not_deep
returns-clause-outer_is_not_deep c = outer_is_not_deep
