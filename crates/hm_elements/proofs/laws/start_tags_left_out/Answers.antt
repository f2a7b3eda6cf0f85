use Rattle.hm_elements.proofs.TableFacts.{start_is_made}
use Rattle.hm_elements.proofs.laws.start_tags_left_out.Goals as goal

pub returns : goal.returns
returns c = start_is_made
