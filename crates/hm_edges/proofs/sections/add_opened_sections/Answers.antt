use Rattle.hm_edges.proofs.sections.add_opened_sections.Goals as goal

pub returns-then-is_writable : goal.returns-then-is_writable
returns-then-is_writable c = λ v u next own is. rw (← c.is_writable.ensures, c.if-is_writable.true) (c.add_going_on.ensures v u next own is)
