use Rattle.std.proofs.Common.{subst}
use Rattle.hm_dump.specs.Dump.{attribute_text}
use Rattle.hm_dump.specs.Given.{Gives}
use Rattle.hm_tree.specs.Views.{attributes_shown}
use Rattle.hm_dump.proofs.DumpLemmas.{flat_map_step}
use Rattle.hm_dump.proofs.GivenLemmas.{Gives-then}
use Rattle.hm_dump.proofs.lines.give_attributes.Goals as goal

pub loop-i-preserved : goal.loop-i-preserved
loop-i-preserved g c = subst (Gives _ _ _ _ _ _) (flat_map_step attribute_text (attributes_shown c.args.attrs.now) c.loop-i.i _ c.at.ensures) (Gives-then c.loop-i.invariant c.give_attribute.ensures)
