use Rattle.hm_token_laws.proofs.Written.{raw_texts_are_next, scripts_are_next, text_ends_are_next}
use Rattle.hm_token_laws.proofs.laws.written_elements_are_next.Goals as goal

pub returns-clause-raw_texts : goal.returns-clause-raw_texts
returns-clause-raw_texts c = raw_texts_are_next

pub returns-clause-scripts : goal.returns-clause-scripts
returns-clause-scripts c = scripts_are_next

pub returns-clause-ends : goal.returns-clause-ends
returns-clause-ends c = text_ends_are_next
