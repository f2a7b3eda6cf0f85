use Rattle.std.proofs.Common.{arith, ap}
use Rattle.hm_base.specs.Walks.{comment, walk_size}
use Rattle.hm_tree.proofs.MakingLemmas.{IsMaking-comment}
use Rattle.hm_tree.proofs.WalkLemmas.{walk_size-push}
use Rattle.hm_tree.proofs.maker.Maker.comment.Goals as goal

pub push_comment-requires-clause-bytes : goal.push_comment-requires-clause-bytes
push_comment-requires-clause-bytes c = omega (arith, c.requires.bytes, walk_size-push c.args.self.now (comment c.args.text.now), ap walk_size c.self.view_is)

pub invariant_of-self-2 : goal.invariant_of-self-2
invariant_of-self-2 c = rw c.in_ok-push_comment.ensures.ok (IsMaking-comment c.self.inside.rows c.self.inside.parent c.self.inside.depth c.self.invariant c.args.text.now (rw c.self.view_is c.requires))
