use Rattle.hm_shortest.proofs.Headline.{certificates_show}
use Rattle.hm_shortest.proofs.laws.certificates_show.Goals as goal

pub returns : goal.returns
returns c = certificates_show
