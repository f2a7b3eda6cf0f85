use Rattle.hm_measure_page.proofs.Plain.{pages_are_plain}
use Rattle.hm_measure_page.proofs.Texts.{pages_are_texts}
use Rattle.hm_measure_page.proofs.laws.pages_are_texts.Goals as goal

pub returns-clause-plain : goal.returns-clause-plain
returns-clause-plain c = pages_are_plain

pub returns-clause-texts : goal.returns-clause-texts
returns-clause-texts c = pages_are_texts
