use Rattle.hm_round_trip_laws.proofs.Beginnings.{spelled_pages_begin_with_markup}
use Rattle.hm_round_trip_laws.proofs.PageTexts.{spelled_pages_have_spelled_texts}
use Rattle.hm_round_trip_laws.proofs.line_ends.spelled_pages_have_spelled_texts.Goals as goal

pub returns-clause-begin : goal.returns-clause-begin
returns-clause-begin c = spelled_pages_begin_with_markup

pub returns-clause-text : goal.returns-clause-text
returns-clause-text c = spelled_pages_have_spelled_texts
