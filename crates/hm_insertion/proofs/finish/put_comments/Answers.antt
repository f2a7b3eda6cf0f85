use Rattle.std.proofs.Common.{List, ℕ, ◌∙◌}
use Rattle.hm_insertion.proofs.Over.{comment_room}
use Rattle.hm_insertion.proofs.finish.put_comments.Goals as goal

pub comment-requires : goal.comment-requires
comment-requires c =
    let item : List ℕ = c.word-item.result in
    rw (c.as_str.ensures.value ∙ c.word.view_is) (comment_room c.args.maker.now c.loop-word.maker c.args.comments.now c.loop-word.word-index item c.requires c.loop-word.invariant c.word-item.is c.loop-word-test.true)
