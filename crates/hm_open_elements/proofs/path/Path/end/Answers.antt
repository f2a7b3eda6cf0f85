use Rattle.std.proofs.Common.{arith}
use Rattle.hm_open_elements.specs.Plans.{IsEndPlan}
use Rattle.hm_open_elements.proofs.Kept.{IsRoomy-truncated}
use Rattle.hm_open_elements.proofs.path.Path.end.Goals as goal

pub invariant_of-self : goal.invariant_of-self
invariant_of-self c =
    let ends : IsEndPlan c.self.inside.elements.items c.args.name.now c.in_ok-left.left = rw c.deref.ensures.value at c.in_ok-left.ensures.ok in
    IsRoomy-truncated c.self.inside.elements c.truncate.new.self c.in_ok-left.left c.self.invariant ends.least (omega (arith, ends.closes)) c.truncate.ensures.items c.truncate.ensures.capacity
