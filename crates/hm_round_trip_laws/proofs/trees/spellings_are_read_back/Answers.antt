use Rattle.hm_round_trip_laws.proofs.ReadBack.{texts_are_read_back, spellings_are_read_back}
use Rattle.hm_round_trip_laws.proofs.trees.spellings_are_read_back.Goals as goal

pub returns-clause-texts : goal.returns-clause-texts
returns-clause-texts c = texts_are_read_back

pub returns-clause-pages : goal.returns-clause-pages
returns-clause-pages c = spellings_are_read_back
