use Rattle.hm_refs.specs.Nodes.{IsSought}
use Rattle.hm_refs.proofs.trie.Trie.longest.Given as goal

abbrev pub invariant-loop-byte : goal.invariant-loop-byte
invariant-loop-byte l = IsSought l.self l.text l.byte-items l.byte-index l.node l.best
