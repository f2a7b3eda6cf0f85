use Rattle.std.proofs.Common.{subst}
use Rattle.hm_dump.specs.Given.{Gives}
use Rattle.hm_dump.proofs.GivenLemmas.{Gives-then}
use Rattle.hm_tree.specs.Views.{attributes_shown}
use Rattle.hm_json_tree.proofs.Writing.{start_shown}
use Rattle.hm_json_tree.proofs.write.give_start.Goals as goal

pub returns : goal.returns
returns g c = λ foreign. subst (Gives _ _ _ _ _ _) (start_shown c.args.name.now foreign (attributes_shown c.args.attrs.now)) (Gives-then c.give_quoted.ensures (Gives-then c.give_attributes.ensures c.give.ensures))
