use Rattle.hm_dump.proofs.GivenLemmas.{Gives-then}
use Rattle.hm_json_tree.proofs.write.give_quoted.Goals as goal

pub returns : goal.returns
returns g c = Gives-then c.give.ensures (Gives-then (rw c.as_bytes.ensures.value at c.give_escaped.ensures) c.give-2.ensures)
