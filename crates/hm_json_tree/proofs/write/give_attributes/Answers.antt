use Rattle.std.proofs.Common.{subst}
use Rattle.hm_dump.specs.Given.{Gives}
use Rattle.hm_dump.proofs.GivenLemmas.{Gives-then}
use Rattle.hm_tree.specs.Views.{attributes_shown}
use Rattle.hm_json_tree.specs.Written.{attribute_text}
use Rattle.hm_json_tree.proofs.Writing.{commas_more, attribute_shown}
use Rattle.hm_json_tree.proofs.write.give_attributes.Goals as goal

pub loop-i-preserved : goal.loop-i-preserved
loop-i-preserved g c =
    let all = attributes_shown c.args.attrs.now in
    let i = c.loop-i.i in
    let pair = subst (Gives _ _ _ _ _ _) (attribute_shown c.at.result.0.now c.at.result.1.now) (Gives-then c.give_quoted.ensures c.give_quoted-in-loop-i.ensures) in
    subst (Gives _ _ _ _ _ _) (commas_more attribute_text all i _ c.at.ensures) (Gives-then c.loop-i.invariant (Gives-then (rw c.comma_before.ensures at c.give.ensures) pair))
