use Rattle.hm_decoder.proofs.Texts.{decided_texts_last, whole_texts_follow}
use Rattle.hm_decoder.proofs.laws.decided_texts_last.Goals as goal

pub returns-clause-longer : goal.returns-clause-longer
returns-clause-longer c = decided_texts_last

pub returns-clause-whole : goal.returns-clause-whole
returns-clause-whole c = whole_texts_follow
