use Rattle.hm_fragment.proofs.Fragments.{open_pages_are_fragments}
use Rattle.hm_fragment.proofs.Framed.{open_pages_are_framed}
use Rattle.hm_fragment.proofs.laws.open_pages_are_framed.Goals as goal

pub returns-clause-framed : goal.returns-clause-framed
returns-clause-framed c = open_pages_are_framed

pub returns-clause-fragments : goal.returns-clause-fragments
returns-clause-fragments c = open_pages_are_fragments
