use Rattle.hm_token_laws.proofs.TextReads.{texts_are_read, element_texts_are_read}
use Rattle.hm_token_laws.proofs.laws.written_texts_are_read.Goals as goal

pub returns-clause-texts : goal.returns-clause-texts
returns-clause-texts c = texts_are_read

pub returns-clause-element_texts : goal.returns-clause-element_texts
returns-clause-element_texts c = element_texts_are_read
