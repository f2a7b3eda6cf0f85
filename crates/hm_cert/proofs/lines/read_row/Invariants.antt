use Rattle.std.proofs.Common.{◌≡◌, length, map}
use Rattle.hm_cert.specs.Layout.{told}
use Rattle.hm_cert.specs.Reading.{line_row}
use Rattle.hm_cert.proofs.LineRows.{after}
use Rattle.hm_cert.proofs.lines.read_row.Given as goal

abbrev pub invariant-loop-first : goal.invariant-loop-first
invariant-loop-first l = after (map told l.into.items) (line_row l.rest) ≡ line_row l.line

abbrev pub decreases-loop-first : goal.decreases-loop-first
decreases-loop-first l = length l.rest
