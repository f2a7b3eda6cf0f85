use Rattle.hm_scan.proofs.tag.scan_tag.Goals as goal

pub returns-in-Ok-clause-placed : goal.returns-in-Ok-clause-placed
returns-in-Ok-clause-placed c = λ place. rw c.token.ensures (c.in-Ok.ensures.placed place)
