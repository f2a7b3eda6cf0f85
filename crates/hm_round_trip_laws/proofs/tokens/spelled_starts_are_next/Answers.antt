use Rattle.hm_round_trip_laws.proofs.Tags.{spelled_starts_are_written, spelled_starts_are_next}
use Rattle.hm_round_trip_laws.proofs.tokens.spelled_starts_are_next.Goals as goal

pub returns-clause-written : goal.returns-clause-written
returns-clause-written c = spelled_starts_are_written

pub returns-clause-next : goal.returns-clause-next
returns-clause-next c = spelled_starts_are_next
