use Rattle.hm_edges.proofs.sections.add_section_edges.Goals as goal

pub returns-then-not-closes_section : goal.returns-then-not-closes_section
returns-then-not-closes_section c = λ v u next own is. rw (← c.is_writable.ensures, ← c.closes_section.ensures v, c.if-is_writable.true, c.if-not-closes_section.true) (c.add_going_on.ensures v u next own is)
