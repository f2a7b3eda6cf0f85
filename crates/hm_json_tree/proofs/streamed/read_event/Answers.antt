use Rattle.std.proofs.lemmas.Result.{IfErr-weaker, IfOk-weaker}
use Rattle.hm_refs.proofs.ByTokens.{begins_shorter}
use Rattle.hm_json_tree.proofs.streamed.read_event.Goals as goal

pub returns-in-Some-clause-read : goal.returns-in-Some-clause-read
returns-in-Some-clause-read c = IfOk-weaker c.take_form.result _ _ (λ taken h is all r. h is all _ c.in-Some.ensures r) c.take_form.ensures.read

pub returns-in-Some-clause-shorter : goal.returns-in-Some-clause-shorter
returns-in-Some-clause-shorter c = IfOk-weaker c.take_form.result _ _ (λ taken h is. rw (h is) (begins_shorter 126 _ _ _ c.in-Some.ensures)) c.take_form.ensures.same

pub returns-in-Some-clause-fault : goal.returns-in-Some-clause-fault
returns-in-Some-clause-fault c = IfErr-weaker c.take_form.result _ _ (λ fault h other all r. h other all _ c.in-Some.ensures r) c.take_form.ensures.fault
