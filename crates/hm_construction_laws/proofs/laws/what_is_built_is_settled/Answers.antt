use Rattle.hm_construction_laws.proofs.Built.{what_is_built_is_settled}
use Rattle.hm_construction_laws.proofs.Pages.{text_is_plain, pages_are_settled}
use Rattle.hm_construction_laws.proofs.laws.what_is_built_is_settled.Goals as goal

pub returns-clause-texts_are_plain : goal.returns-clause-texts_are_plain
returns-clause-texts_are_plain c = text_is_plain

pub returns-clause-of_texts : goal.returns-clause-of_texts
returns-clause-of_texts c = what_is_built_is_settled

pub returns-clause-of_pages : goal.returns-clause-of_pages
returns-clause-of_pages c = pages_are_settled
