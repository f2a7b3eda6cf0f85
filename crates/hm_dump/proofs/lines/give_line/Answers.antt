use Rattle.std.proofs.Common.{sym, subst}
use Rattle.hm_dump.specs.Given.{Gives}
use Rattle.hm_dump.proofs.DumpLemmas.{line_shown}
use Rattle.hm_dump.proofs.GivenLemmas.{Gives-then}
use Rattle.hm_dump.proofs.lines.give_line.Goals as goal

pub returns : goal.returns
returns g c = subst (Gives _ _ _ _ _ _) (sym (line_shown c.args.depth c.args.event.now c.in_default.not-End)) (Gives-then (Gives-then c.give_spaces.ensures c.give_event.ensures) c.give.ensures)
