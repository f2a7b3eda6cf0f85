use Rattle.hm_dump.proofs.GivenLemmas.{Gives-then}
use Rattle.hm_dump.proofs.lines.give_event.Goals as goal

pub returns-in-Start : goal.returns-in-Start
returns-in-Start g c = rw c.in-Start.is (Gives-then (Gives-then c.give-in-Start.ensures (rw c.as_bytes.ensures.value at c.give-in-Start-2.ensures)) c.give_attributes.ensures)
