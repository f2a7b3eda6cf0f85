use Rattle.std.proofs.Common.{refl}
use Rattle.hm_build.proofs.Builders.{begins_read}
use Rattle.hm_build.proofs.fed.PageParser.new.Goals as goal

pub returns-clause-read : goal.returns-clause-read
returns-clause-read c = begins_read _ refl c.in-Ok.ensures c.new-text.ensures.fed
