use Rattle.hm_measure_page.proofs.Lengths.{pages_are_short, pages_are_within_limit}
use Rattle.hm_measure_page.proofs.laws.pages_are_short.Goals as goal

pub returns-clause-bytes : goal.returns-clause-bytes
returns-clause-bytes c = pages_are_short

pub returns-clause-limit : goal.returns-clause-limit
returns-clause-limit c = pages_are_within_limit
