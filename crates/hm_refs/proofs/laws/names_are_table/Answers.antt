use Rattle.hm_refs.proofs.Members.{names_table}
use Rattle.hm_refs.proofs.laws.names_are_table.Goals as goal

pub returns : goal.returns
returns c = names_table
