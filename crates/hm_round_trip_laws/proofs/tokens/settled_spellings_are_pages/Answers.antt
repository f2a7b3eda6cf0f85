use Rattle.hm_round_trip_laws.proofs.Lines.{spelled_points_have_no_return}
use Rattle.hm_round_trip_laws.proofs.Pages.{settled_spellings_are_clean, settled_spellings_have_text}
use Rattle.hm_round_trip_laws.proofs.tokens.settled_spellings_are_pages.Goals as goal

pub returns-clause-no_return : goal.returns-clause-no_return
returns-clause-no_return c = spelled_points_have_no_return

pub returns-clause-clean : goal.returns-clause-clean
returns-clause-clean c = settled_spellings_are_clean

pub returns-clause-text : goal.returns-clause-text
returns-clause-text c = settled_spellings_have_text
