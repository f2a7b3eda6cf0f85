use Rattle.std.proofs.Common.{◌∷◌, ap, ◌∙◌, arith}
use Rattle.hm_open_elements.specs.Answers.{elements_of}
use Rattle.hm_open_elements.specs.Elements.{name_of}
use Rattle.hm_open_elements.specs.Moves.{element}
use Rattle.hm_open_elements.proofs.Kept.{length-made, path_of-pushed, IsRoomy-pushed, IsRoomy-truncated}
use Rattle.hm_open_elements.proofs.path.carry_out.Goals as goal

pub make-requires-clause-kept : goal.make-requires-clause-kept
make-requires-clause-kept c =
    IsRoomy-truncated c.args.elements.now c.truncate.new.self c.args.plan.left c.requires.kept c.requires.least c.requires.most c.truncate.ensures.items c.truncate.ensures.capacity

pub push-requires-clause-room : goal.push-requires-clause-room
push-requires-clause-room c =
    omega (arith, length-made c.truncate.new.self.items c.make.new.elements.items (elements_of c.args.plan.made) c.make.ensures.path, c.truncate.ensures.len, c.make.ensures.kept.room)

pub returns-in-Some-clause-kept : goal.returns-in-Some-clause-kept
returns-in-Some-clause-kept c =
    IsRoomy-pushed c.make.new.elements c.push.new.elements (element (name_of c.in-Some.name) c.args.foreign) c.make.ensures.kept
    (omega (arith, length-made c.truncate.new.self.items c.make.new.elements.items (elements_of c.args.plan.made) c.make.ensures.path, c.truncate.ensures.len)) c.push.ensures.pushed c.push.ensures.capacity

pub returns-in-Some-clause-path : goal.returns-in-Some-clause-path
returns-in-Some-clause-path c =
    rw c.in-Some.is
    (path_of-pushed c.make.new.elements.items c.push.new.elements.items (element (name_of c.in-Some.name) c.args.foreign) c.push.ensures.pushed
    ∙ ap (λ x. element (name_of c.in-Some.name) c.args.foreign ∷ x) (rw c.truncate.ensures.items at c.make.ensures.path))
