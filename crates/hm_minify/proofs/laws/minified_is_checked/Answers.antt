use Rattle.hm_minify.proofs.Afterwards as law
use Rattle.hm_minify.proofs.laws.minified_is_checked.Goals as goal

pub returns : goal.returns
returns c = law.minified_is_checked
