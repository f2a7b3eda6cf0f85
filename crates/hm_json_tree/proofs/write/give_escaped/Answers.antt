use Rattle.std.proofs.Common.{subst}
use Rattle.hm_dump.specs.Given.{Gives}
use Rattle.hm_dump.proofs.GivenLemmas.{Gives-then}
use Rattle.hm_json_tree.proofs.Writing.{escaped_more}
use Rattle.hm_json_tree.proofs.write.give_escaped.Goals as goal

pub loop-byte-preserved : goal.loop-byte-preserved
loop-byte-preserved g c = subst (Gives _ _ _ _ _ _) (escaped_more c.args.bytes.now c.loop-byte.byte-index c.loop-byte-test.true) (Gives-then c.loop-byte.invariant c.give_byte.ensures)
