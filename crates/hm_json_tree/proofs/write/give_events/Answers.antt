use Rattle.std.proofs.Common.{subst}
use Rattle.hm_dump.specs.Given.{Gives}
use Rattle.hm_dump.proofs.GivenLemmas.{Gives-failed, Gives-then}
use Rattle.hm_json_tree.specs.Written.{event_text}
use Rattle.hm_json_tree.proofs.Writing.{commas_more, commas_rest}
use Rattle.hm_json_tree.proofs.write.give_events.Goals as goal

pub returns-then-buffer : goal.returns-then-buffer
returns-then-buffer g c =
    let rest = commas_rest event_text c.args.tree.now c.loop-i.i in
    subst (Gives _ _ _ _ _ _) rest.1 (Gives-failed _ _ _ _ _ _ _ rest.0 c.if-buffer.true c.loop-i.invariant)

pub loop-i-preserved : goal.loop-i-preserved
loop-i-preserved g c =
    subst (Gives _ _ _ _ _ _) (commas_more event_text c.args.tree.now c.loop-i.i _ c.event.ensures) (Gives-then c.loop-i.invariant (Gives-then (rw c.comma_before.ensures at c.give.ensures) c.give_event.ensures))
