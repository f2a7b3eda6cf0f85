use Rattle.std.proofs.Common.{◌++◌, ap, sym, refl}
use Rattle.hm_dump.proofs.GivenLemmas.{Gives-put, Gives-then, Gives-wait}
use Rattle.hm_dump.proofs.buffer.Buffer.give_after.Goals as goal

pub returns-then-bytes-capacity : goal.returns-then-bytes-capacity
returns-then-bytes-capacity g c = Gives-then c.flush.ensures.gives (Gives-wait _ _ _ _ c.args.bytes.now c.append.ensures refl)

pub returns-else-bytes-capacity : goal.returns-else-bytes-capacity
returns-else-bytes-capacity g c = Gives-then c.flush.ensures.gives (Gives-put _ _ _ _ _ _ c.args.bytes.now _ c.put_to-self.ensures (sym (ap (λ w. w ++ c.args.bytes.now) c.flush.ensures.empty)) c.flush.ensures.empty)
