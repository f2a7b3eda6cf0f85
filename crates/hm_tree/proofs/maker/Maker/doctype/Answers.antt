use Rattle.hm_tree.proofs.MakingLemmas.{IsMaking-doctype}
use Rattle.hm_tree.proofs.maker.Maker.doctype.Goals as goal

pub invariant_of-self-2 : goal.invariant_of-self-2
invariant_of-self-2 c = rw c.in_ok-push_doctype.ensures.ok (IsMaking-doctype c.self.inside.rows c.self.inside.parent c.self.inside.depth c.self.invariant c.args.legacy (rw c.self.view_is c.requires))
