use Rattle.std.proofs.Common.{sym}
use Rattle.hm_refs.proofs.Gathered.{no_names, no_table}
use Rattle.hm_refs.proofs.FirstsLaws.{no_places}
use Rattle.hm_refs.proofs.table.Table.empty.Goals as goal

pub new-requires-2 : goal.new-requires-2
new-requires-2 c = rw c.new.ensures.items no_names

pub invariant_of-result : goal.invariant_of-result
invariant_of-result c = rw (c.in_ok-trie.ensures, c.new.ensures.items) (no_table, λ q. rw c.new-3.ensures.empty (sym (no_places q)), c.plain_flags.ensures)
