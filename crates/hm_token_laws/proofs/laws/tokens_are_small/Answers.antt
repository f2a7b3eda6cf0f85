use Rattle.hm_token_laws.proofs.Firsts.{tokens_are_small}
use Rattle.hm_token_laws.proofs.laws.tokens_are_small.Goals as goal

pub returns : goal.returns
returns c = tokens_are_small
