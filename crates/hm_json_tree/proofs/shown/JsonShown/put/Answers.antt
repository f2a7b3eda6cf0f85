use Rattle.std.proofs.Common.{subst, ◌∙◌, arith}
use Rattle.std.proofs.lemmas.List.{append-nil}
use Rattle.hm_dump.specs.Given.{Gives}
use Rattle.hm_dump.proofs.GivenLemmas.{Gives-then, put_front, put_whole}
use Rattle.hm_json_tree.proofs.shown.JsonShown.put.Goals as goal

pub returns-then-buffer-clause-err : goal.returns-then-buffer-clause-err
returns-then-buffer-clause-err g c =
    let all = subst (Gives _ _ _ _ _ _) (append-nil _ ∙ c.self.view_is) (Gives-then (Gives-then c.give_tree.ensures c.give.ensures) c.flush.ensures.gives) in
    (put_front _ _ _ _ _ _ c.args.self c.of-buffer.ensures all c.if-buffer.true).1

pub returns-then-buffer-clause-cause : goal.returns-then-buffer-clause-cause
returns-then-buffer-clause-cause g c =
    let all = subst (Gives _ _ _ _ _ _) (append-nil _ ∙ c.self.view_is) (Gives-then (Gives-then c.give_tree.ensures c.give.ensures) c.flush.ensures.gives) in
    let front = put_front _ _ _ _ _ _ c.args.self c.of-buffer.ensures all c.if-buffer.true in
    record { later = front.0; failed = front.2; steady = tt }

pub returns-clause-ok : goal.returns-clause-ok
returns-clause-ok g c =
    let all = subst (Gives _ _ _ _ _ _) (append-nil _ ∙ c.self.view_is) (Gives-then (Gives-then c.give_tree.ensures c.give.ensures) c.flush.ensures.gives) in
    (put_whole _ _ _ _ _ _ c.args.self c.of-buffer.ensures all c.if-buffer.false c.flush.ensures.empty).1

pub returns-clause-cause : goal.returns-clause-cause
returns-clause-cause g c =
    let all = subst (Gives _ _ _ _ _ _) (append-nil _ ∙ c.self.view_is) (Gives-then (Gives-then c.give_tree.ensures c.give.ensures) c.flush.ensures.gives) in
    let steady = (put_whole _ _ _ _ _ _ c.args.self c.of-buffer.ensures all c.if-buffer.false c.flush.ensures.empty).0 in
    record { later = omega (arith, steady); failed = tt; steady = steady }
