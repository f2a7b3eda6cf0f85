use Rattle.hm_scan.proofs.WrittenTags.{ends_read}
use Rattle.hm_scan.proofs.tag_laws.written_ends_are_read.Goals as goal

pub returns : goal.returns
returns c = ends_read
