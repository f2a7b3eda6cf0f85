use Rattle.std.proofs.Common.{arith, ap}
use Rattle.hm_base.specs.Walks.{start, walk_size}
use Rattle.hm_tree.specs.Sources.{listed}
use Rattle.hm_tree.proofs.MakingLemmas.{IsMaking-start}
use Rattle.hm_tree.proofs.WalkLemmas.{walk_size-push}
use Rattle.hm_tree.proofs.maker.Maker.start_of.Goals as goal

pub push_start-requires-clause-bytes : goal.push_start-requires-clause-bytes
push_start-requires-clause-bytes c =
    omega (arith, c.requires.bytes, walk_size-push c.args.self.now (start c.args.name.now c.args.foreign (listed c.args.attrs.now)), ap walk_size c.self.view_is)

pub invariant_of-self-2 : goal.invariant_of-self-2
invariant_of-self-2 c =
    rw c.in_ok-push_start.ensures.ok
    (IsMaking-start c.self.inside.rows c.self.inside.parent c.self.inside.depth c.self.invariant c.args.name.now c.args.foreign (listed c.args.attrs.now) c.len-start.result c.len-start.ensures.len (rw c.self.view_is c.requires))
