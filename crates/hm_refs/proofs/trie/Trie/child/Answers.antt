use Rattle.std.proofs.Common.{subst}
use Rattle.hm_refs.specs.Nodes.{IsFound}
use Rattle.hm_refs.proofs.Whole.{leads_of}
use Rattle.hm_refs.proofs.trie.Trie.child.Goals as goal

pub returns-clause-leads : goal.returns-clause-leads
returns-clause-leads c = (leads_of _ _ _ c.args.self.now _ _ c.args.byte _ c.self.invariant c.self.view_is c.requires c.index.ensures (subst (λ ns. IsFound ns c.index.result c.args.byte c.find_child.result) c.deref.ensures.value c.find_child.ensures)).0

pub returns-clause-node : goal.returns-clause-node
returns-clause-node c = (leads_of _ _ _ c.args.self.now _ _ c.args.byte _ c.self.invariant c.self.view_is c.requires c.index.ensures (subst (λ ns. IsFound ns c.index.result c.args.byte c.find_child.result) c.deref.ensures.value c.find_child.ensures)).1
