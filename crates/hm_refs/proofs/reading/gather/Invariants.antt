use Rattle.std.proofs.Common.{◌≡◌, ◌++◌}
use Rattle.serde_json.specs.View.{members_view}
use Rattle.hm_refs.specs.Json.{first_bad_points, entries_in}
use Rattle.hm_refs.specs.Nodes.{entries_of}
use Rattle.hm_refs.proofs.reading.gather.Given as goal

abbrev pub invariant-loop-key : goal.invariant-loop-key
invariant-loop-key l =
    (first_bad_points (members_view l.key-iterator) ≡ first_bad_points (members_view l.members.entries)) × (entries_of l.names.items ++ entries_in (members_view l.key-iterator) ≡ entries_in (members_view l.members.entries))
