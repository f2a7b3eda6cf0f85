use Rattle.std.proofs.Common.{◌+◌}
use Rattle.hm_tree.specs.Views.{event_of}
use Rattle.hm_event_parts.proofs.Surroundings.{first_there}
use Rattle.hm_event_parts.proofs.neighbours.next_event.Goals as goal

pub returns-then-i-len : goal.returns-then-i-len
returns-then-i-len c = first_there c.args.tree.now (c.args.i + 1) (event_of c.event.result) c.event.ensures
