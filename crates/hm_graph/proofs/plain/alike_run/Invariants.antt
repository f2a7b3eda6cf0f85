use Rattle.std.proofs.Common.{◌<◌, ◌-◌, length, take}
use Rattle.std.specs.List.{All}
use Rattle.hm_graph.specs.Interned.{IsToward}
use Rattle.hm_graph.proofs.plain.alike_run.Given as goal

abbrev pub invariant-fours : goal.invariant-fours
invariant-fours l = (0 < l.count) × ((l.count < length l.text) × All (IsToward l.steps l.to) (take l.count l.text))

abbrev pub decreases-fours : goal.decreases-fours
decreases-fours l = length l.text - l.count

abbrev pub invariant-loop-count : goal.invariant-loop-count
invariant-loop-count l = (0 < l.count) × ((l.count < length l.text) × All (IsToward l.steps l.to) (take l.count l.text))

abbrev pub decreases-loop-count : goal.decreases-loop-count
decreases-loop-count l = length l.text - l.count
