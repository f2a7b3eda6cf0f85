use Rattle.hm_scan.proofs.WrittenComments.{comment_is_read}
use Rattle.hm_scan.proofs.mark_laws.comments_are_read.Goals as goal

pub returns : goal.returns
returns c = comment_is_read
