use Rattle.std.proofs.Common.{◌≡◌, drop}
use Rattle.hm_refs.specs.Json.{first_lone}
use Rattle.hm_refs.proofs.trie.Trie.first_lone.Given as goal

abbrev pub invariant-loop-number : goal.invariant-loop-number
invariant-loop-number l = first_lone l.self.entries (drop l.number l.self.entries) ≡ first_lone l.self.entries l.self.entries
