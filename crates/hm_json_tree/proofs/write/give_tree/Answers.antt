use Rattle.std.proofs.Common.{subst}
use Rattle.hm_dump.specs.Given.{Gives}
use Rattle.hm_dump.proofs.GivenLemmas.{Gives-then}
use Rattle.hm_json_tree.proofs.Writing.{closed_text}
use Rattle.hm_json_tree.proofs.write.give_tree.Goals as goal

pub returns : goal.returns
returns g c = subst (Gives _ _ _ _ _ _) (closed_text c.args.tree.now) (Gives-then c.give.ensures (Gives-then c.give_events.ensures c.give-2.ensures))
