use Rattle.std.proofs.Common.{subst, ◌∙◌}
use Rattle.std.proofs.lemmas.List.{append-nil}
use Rattle.std.proofs.lemmas.Result.{IfOk-weaker}
use Rattle.hm_dump.specs.Given.{Gives}
use Rattle.hm_dump.proofs.GivenLemmas.{Gives-then, put_whole}
use Rattle.hm_json_tree.proofs.Writing.{same_known}
use Rattle.hm_json_tree.proofs.shown.write_tree.Goals as goal

pub returns : goal.returns
returns c =
    let all = subst (Gives _ _ _ _ _ _) (append-nil _) (Gives-then c.give_tree.ensures c.flush.ensures.gives) in
    let whole = (put_whole _ _ _ _ _ _ _ c.of-buffer.ensures all c.if-buffer.false c.flush.ensures.empty).1 in
    let same = same_known c.flush.new.out.bytes _ (rw c.new-out.ensures at whole) in
    IfOk-weaker c.copied.result _ _ (λ copy is. is ∙ c.bytes.ensures ∙ same) c.copied.ensures
