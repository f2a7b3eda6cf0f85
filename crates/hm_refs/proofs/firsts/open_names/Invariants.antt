use Rattle.std.proofs.Common.{◌≡◌, ◌≤◌, count_by, take}
use Rattle.hm_refs.specs.Nodes.{entries_of}
use Rattle.hm_refs.specs.Firsts.{is_open_at}
use Rattle.hm_refs.proofs.firsts.open_names.Given as goal

abbrev pub invariant-loop-id : goal.invariant-loop-id
invariant-loop-id l = (l.open ≡ count_by (is_open_at (entries_of l.names)) (take l.id-index l.ids)) × (l.open ≤ l.id-index)
