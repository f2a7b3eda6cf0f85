use Rattle.hm_refs.proofs.Whole.{named_so}
use Rattle.hm_refs.proofs.table.Table.name_at.Goals as goal

pub returns-clause-exact : goal.returns-clause-exact
returns-clause-exact c = rw (← c.self.view_is) (named_so _ _ _ c.name_at.ensures).0

pub returns-clause-inside : goal.returns-clause-inside
returns-clause-inside c = rw (← c.self.view_is) (named_so _ _ _ c.name_at.ensures).1

pub returns-clause-name : goal.returns-clause-name
returns-clause-name c = rw (← c.self.view_is) (named_so _ _ _ c.name_at.ensures).2
