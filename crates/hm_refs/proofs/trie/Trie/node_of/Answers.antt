use Rattle.hm_refs.proofs.Whole.{place_of}
use Rattle.hm_refs.proofs.trie.Trie.node_of.Goals as goal

pub returns-clause-front : goal.returns-clause-front
returns-clause-front c = (place_of _ _ _ c.args.self.now _ _ _ c.self.invariant c.self.view_is c.requires c.index.ensures c.index-2.ensures).0

pub returns-clause-node : goal.returns-clause-node
returns-clause-node c = (place_of _ _ _ c.args.self.now _ _ _ c.self.invariant c.self.view_is c.requires c.index.ensures c.index-2.ensures).1
