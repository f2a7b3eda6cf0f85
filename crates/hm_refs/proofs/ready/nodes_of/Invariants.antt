use Rattle.std.proofs.Common.{◌≡◌, ◌++◌, ◌+◌, ◌*◌, ◌≤◌, drop}
use Rattle.hm_refs.specs.Ready.{nodes_from}
use Rattle.hm_refs.proofs.ready.nodes_of.Given as goal

abbrev pub invariant-loop-number : goal.invariant-loop-number
invariant-loop-number l =
    (l.first ≤ 1 + 255 * l.number)
    × (l.nodes.items ++ nodes_from l.first (drop l.number l.ready.names.now) (drop l.number l.ready.depths.now) (drop l.number l.ready.bytes.now) (drop l.number l.ready.counts.now) ≡ nodes_from 1 l.ready.names.now l.ready.depths.now l.ready.bytes.now l.ready.counts.now)
