use Rattle.std.proofs.Common.{sym, ◌∙◌}
use Rattle.std.proofs.lemmas.List.{append-nil}
use Rattle.hm_dump.proofs.GivenLemmas.{Gives-put}
use Rattle.hm_dump.proofs.buffer.Buffer.flush.Goals as goal

pub returns-clause-gives : goal.returns-clause-gives
returns-clause-gives g c = Gives-put _ _ _ _ _ _ _ _ c.put_to-self.ensures (c.as_slice.ensures.value ∙ sym (append-nil _)) c.clear.ensures.items
