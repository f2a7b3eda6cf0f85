use Rattle.hm_round_trip_laws.proofs.Ends.{spelled_points_end_there}
use Rattle.hm_round_trip_laws.proofs.Texts.{spelled_element_texts_are_read}
use Rattle.hm_round_trip_laws.proofs.tokens.spelled_element_texts_are_read.Goals as goal

pub returns-clause-ends : goal.returns-clause-ends
returns-clause-ends c = spelled_points_end_there

pub returns-clause-read : goal.returns-clause-read
returns-clause-read c = spelled_element_texts_are_read
