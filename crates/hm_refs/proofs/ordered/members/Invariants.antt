use Rattle.std.proofs.Common.{ℕ, ◌≤◌, List, length}
use Rattle.json.specs.Token.{Token}
use Rattle.serde_json.specs.Data.{Members, no_members}
use Rattle.hm_refs.specs.Nodes.{entries_of}
use Rattle.hm_refs.specs.Ordered.{Adds, AreEntries, IsBefore}
use Rattle.hm_refs.proofs.ByTokens.{Under}
use Rattle.hm_refs.proofs.ordered.members.Given as goal

abbrev pub invariant-loop-names : goal.invariant-loop-names
invariant-loop-names l =
    (n : ℕ) × (ms : Members) × (length l.reader ≤ n) × ((all : Members) (new : List Token) → Adds 126 ms n l.reader all new → Adds 126 no_members (length l.initial.reader) l.initial.reader all new) × AreEntries ms (entries_of l.names.items)
    × ((k : List ℕ) → IsBefore l.previous k → Under k ms)

abbrev pub decreases-loop-names : goal.decreases-loop-names
decreases-loop-names l = length l.reader
