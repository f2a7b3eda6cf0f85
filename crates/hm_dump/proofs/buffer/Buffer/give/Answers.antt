use Rattle.std.proofs.Common.{refl}
use Rattle.hm_dump.proofs.GivenLemmas.{Gives-wait}
use Rattle.hm_dump.proofs.buffer.Buffer.give.Goals as goal

pub returns-then-bytes-capacity : goal.returns-then-bytes-capacity
returns-then-bytes-capacity g c = Gives-wait _ _ _ _ c.args.bytes.now c.append.ensures refl
