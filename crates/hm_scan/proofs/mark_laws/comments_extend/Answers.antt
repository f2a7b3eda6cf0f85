use Rattle.hm_scan.proofs.Extended.{comment_extends}
use Rattle.hm_scan.proofs.mark_laws.comments_extend.Goals as goal

pub returns : goal.returns
returns c = comment_extends
