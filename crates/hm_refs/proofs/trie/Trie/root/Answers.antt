use Rattle.hm_refs.proofs.Whole.{is_trie}
use Rattle.hm_refs.proofs.trie.Trie.root.Goals as goal

pub returns-clause-trie : goal.returns-clause-trie
returns-clause-trie c = rw (← c.self.view_is) (is_trie _ _ _ c.self.invariant)
