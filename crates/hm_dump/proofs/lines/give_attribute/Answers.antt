use Rattle.hm_dump.proofs.GivenLemmas.{Gives-then}
use Rattle.hm_dump.proofs.lines.give_attribute.Goals as goal

pub returns : goal.returns
returns g c = Gives-then c.give.ensures (Gives-then (rw c.as_bytes.ensures.value at c.give-2.ensures) c.give_quoted.ensures)
