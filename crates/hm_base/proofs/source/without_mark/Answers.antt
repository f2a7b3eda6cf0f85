use Rattle.hm_base.proofs.Mark.{mark_stripped, mark_dropped, mark_missing, no_mark}
use Rattle.hm_base.proofs.source.without_mark.Goals as goal

pub returns-in-Some-clause-whole : goal.returns-in-Some-clause-whole
returns-in-Some-clause-whole c = mark_stripped c.args.page.now c.in-Some.rest.now c.in-Some.ensures.cases

pub returns-in-Some-clause-places : goal.returns-in-Some-clause-places
returns-in-Some-clause-places c = mark_dropped c.args.page.now c.in-Some.rest.now (mark_stripped c.args.page.now c.in-Some.rest.now c.in-Some.ensures.cases)

pub returns-in-None-clause-places : goal.returns-in-None-clause-places
returns-in-None-clause-places c = mark_missing c.args.page.now (no_mark c.args.page.now c.in-None.ensures.cases)
