use Rattle.hm_round_trip_laws.proofs.SvgTexts.{spelled_svg_points_are_read}
use Rattle.hm_round_trip_laws.proofs.Texts.{spelled_svg_texts_are_read}
use Rattle.hm_round_trip_laws.proofs.tokens.spelled_svg_texts_are_read.Goals as goal

pub returns-clause-points : goal.returns-clause-points
returns-clause-points c = spelled_svg_points_are_read

pub returns-clause-read : goal.returns-clause-read
returns-clause-read c = spelled_svg_texts_are_read
