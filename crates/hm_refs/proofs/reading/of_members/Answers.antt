use Rattle.hm_refs.proofs.Members.{gathered_of}
use Rattle.hm_refs.proofs.reading.of_members.Goals as goal

pub checked-requires : goal.checked-requires
checked-requires c = rw c.in_ok-names.ensures.names (gathered_of _ c.requires c.in_ok-check_names.ensures.ok c.in_ok-names.ensures.passed)
