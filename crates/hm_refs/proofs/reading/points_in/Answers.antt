use Rattle.hm_refs.proofs.ReadingLaws.{many_points}
use Rattle.hm_refs.proofs.reading.points_in.Goals as goal

pub returns-in_default-2 : goal.returns-in_default-2
returns-in_default-2 c = many_points c.args.values.now c.in_default.len_at_least
