use Rattle.hm_round_trip_laws.proofs.Decided.{spelled_values_are_decided}
use Rattle.hm_round_trip_laws.proofs.Values.{spelled_values_are_read}
use Rattle.hm_round_trip_laws.proofs.tokens.spelled_values_are_read.Goals as goal

pub returns-clause-read : goal.returns-clause-read
returns-clause-read c = spelled_values_are_read

pub returns-clause-decided : goal.returns-clause-decided
returns-clause-decided c = spelled_values_are_decided
