use Rattle.hm_decoder.specs.Fed.{decided_len}
use Rattle.hm_decoder.proofs.Decisions.{decided_nonzero}
use Rattle.hm_decoder.proofs.pieces.put.Goals as goal

pub grow-requires-clause-no_zero : goal.grow-requires-clause-no_zero
grow-requires-clause-no_zero c = rw c.in-Ok.ensures.ok (decided_nonzero c.args.bytes.now (decided_len c.args.bytes.now) c.in-Ok.ensures.sound)
