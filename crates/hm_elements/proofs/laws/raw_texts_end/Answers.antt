use Rattle.hm_elements.proofs.RawEnds.{raw_text_ends}
use Rattle.hm_elements.proofs.laws.raw_texts_end.Goals as goal

pub returns : goal.returns
returns c = raw_text_ends
