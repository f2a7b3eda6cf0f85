use Rattle.hm_round_trip_laws.proofs.Tags.{spelled_doctypes_are_next}
use Rattle.hm_round_trip_laws.proofs.tokens.spelled_doctypes_are_next.Goals as goal

pub returns : goal.returns
returns c = spelled_doctypes_are_next
