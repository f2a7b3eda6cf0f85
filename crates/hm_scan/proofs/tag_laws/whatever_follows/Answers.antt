use Rattle.hm_scan.proofs.Follows.{whatever_follows}
use Rattle.hm_scan.proofs.tag_laws.whatever_follows.Goals as goal

pub returns : goal.returns
returns c = whatever_follows
