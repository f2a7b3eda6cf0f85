use Rattle.hm_token_laws.proofs.Longer.{next_tokens_extend}
use Rattle.hm_token_laws.proofs.Readings.{whole_readings_extend}
use Rattle.hm_token_laws.proofs.laws.tokens_extend.Goals as goal

pub returns-clause-next : goal.returns-clause-next
returns-clause-next c = next_tokens_extend

pub returns-clause-readings : goal.returns-clause-readings
returns-clause-readings c = whole_readings_extend
