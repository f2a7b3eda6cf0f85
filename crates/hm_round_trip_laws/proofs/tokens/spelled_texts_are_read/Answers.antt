use Rattle.hm_round_trip_laws.proofs.TextPieces.{spelled_points_are_in_pieces, touching_texts_are_in_pieces}
use Rattle.hm_round_trip_laws.proofs.Texts.{spelled_texts_are_in_pieces, spelled_texts_are_read}
use Rattle.hm_round_trip_laws.proofs.tokens.spelled_texts_are_read.Goals as goal

pub returns-clause-points : goal.returns-clause-points
returns-clause-points c = spelled_points_are_in_pieces

pub returns-clause-touching : goal.returns-clause-touching
returns-clause-touching c = touching_texts_are_in_pieces

pub returns-clause-pieces : goal.returns-clause-pieces
returns-clause-pieces c = spelled_texts_are_in_pieces

pub returns-clause-read : goal.returns-clause-read
returns-clause-read c = spelled_texts_are_read
