use Rattle.hm_scan.proofs.WrittenTags.{starts_read}
use Rattle.hm_scan.proofs.tag_laws.written_starts_are_read.Goals as goal

pub returns : goal.returns
returns c = starts_read
