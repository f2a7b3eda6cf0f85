use Rattle.hm_event_parts.proofs.PartsAdded.{adds_one}
use Rattle.hm_event_parts.proofs.adding.add.Goals as goal

pub returns : goal.returns
returns c = adds_one c.args.into.now.items c.push.new.self.items c.args.part c.in_ok-push.ensures.items c.requires
