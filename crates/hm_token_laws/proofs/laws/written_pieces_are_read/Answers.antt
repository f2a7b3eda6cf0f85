use Rattle.hm_token_laws.proofs.Readings.{readings_follow, pieces_are_read, whole_pieces_are_read}
use Rattle.hm_token_laws.proofs.laws.written_pieces_are_read.Goals as goal

pub returns-clause-follow : goal.returns-clause-follow
returns-clause-follow c = readings_follow

pub returns-clause-pieces : goal.returns-clause-pieces
returns-clause-pieces c = pieces_are_read

pub returns-clause-whole : goal.returns-clause-whole
returns-clause-whole c = whole_pieces_are_read
