use Rattle.hm_tree.proofs.MakingLemmas.{IsMaking-text}
use Rattle.hm_tree.proofs.maker.Maker.text.Goals as goal

pub invariant_of-self-2 : goal.invariant_of-self-2
invariant_of-self-2 c = rw c.in_ok-put_text.ensures.ok (IsMaking-text c.self.inside.rows c.self.inside.parent c.self.inside.depth c.self.invariant c.args.text.now c.args.raw (rw c.self.view_is c.requires.room))
