use Rattle.std.proofs.Common.{length, ◌-◌, ◌≤◌}
use Rattle.hm_lexer.proofs.PieceEnds.{AllStay}
use Rattle.hm_lexer.proofs.parts.piece_end.Given as goal

abbrev pub invariant-signs : goal.invariant-signs
invariant-signs l = record { low : l.from ≤ l.at; high : l.at ≤ length l.text; stay : AllStay l.table.entries l.text l.from l.at }

abbrev pub decreases-signs : goal.decreases-signs
decreases-signs l = length l.text - l.at
