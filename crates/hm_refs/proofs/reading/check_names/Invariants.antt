use Rattle.std.proofs.Common.{◌≡◌}
use Rattle.serde_json.specs.View.{members_view}
use Rattle.hm_refs.specs.Json.{first_bad_name}
use Rattle.hm_refs.proofs.reading.check_names.Given as goal

abbrev pub invariant-loop-key : goal.invariant-loop-key
invariant-loop-key l = first_bad_name (members_view l.key-iterator) ≡ first_bad_name (members_view l.members.entries)
