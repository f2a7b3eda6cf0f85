use Rattle.hm_measure_page_laws.proofs.Page.{pages_are_built}
use Rattle.hm_measure_page_laws.proofs.laws.pages_are_built.Goals as goal

pub returns : goal.returns
returns c = pages_are_built
