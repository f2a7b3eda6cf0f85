use Rattle.hm_open_elements.proofs.path.Path.start.Goals as goal

pub returns-clause-rule : goal.returns-clause-rule
returns-clause-rule c = rw c.of.ensures at c.start_known.ensures.rule
