use Rattle.std.proofs.Common.{◌≡◌, ◌++◌, true, drop}
use Rattle.hm_refs.specs.Nodes.{entries_of}
use Rattle.hm_refs.specs.Ready.{are_cut, entries_from}
use denote.Shadow.{shadow}
use denote.Text.{Utf8}
use Rattle.hm_refs.proofs.ready.names_of.Given as goal

abbrev pub invariant-loop-number : goal.invariant-loop-number
invariant-loop-number l =
    (are_cut l.rest (drop l.number l.ready.lengths.now) ≡ true)
    × (entries_of l.names.items ++ entries_from l.rest (drop l.number l.ready.lengths.now) (drop l.number l.ready.firsts.now) (drop l.number l.ready.seconds.now) ≡ entries_from l.ready.text.now l.ready.lengths.now l.ready.firsts.now l.ready.seconds.now)
    × shadow (Utf8 l.rest)
