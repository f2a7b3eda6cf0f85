use Rattle.hm_token_laws.proofs.Firsts.{tokens_are_sound}
use Rattle.hm_token_laws.proofs.laws.tokens_are_sound.Goals as goal

pub returns : goal.returns
returns c = tokens_are_sound
