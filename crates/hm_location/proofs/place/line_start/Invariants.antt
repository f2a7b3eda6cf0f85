use Rattle.hm_location.proofs.LineLaws.{IsLine}
use Rattle.hm_location.proofs.place.line_start.Given as goal

abbrev pub invariant-loop-index : goal.invariant-loop-index
invariant-loop-index l = IsLine l.text l.index l.number l.begin
