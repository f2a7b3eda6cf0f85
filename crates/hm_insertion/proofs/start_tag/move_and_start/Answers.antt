use Rattle.std.proofs.Common.{◌∷◌, [], map, take}
use Rattle.hm_base.specs.Walks.{path_after, start}
use Rattle.hm_open_elements.specs.Answers.{elements_of}
use Rattle.hm_construction_laws.specs.Steps.{end_event, starts}
use Rattle.hm_insertion.proofs.Opened.{room_made}
use Rattle.hm_insertion.proofs.start_tag.move_and_start.Goals as goal

pub start_made-requires : goal.start_made-requires
start_made-requires c =
    let w = c.args.maker.now in
    let closed = map end_event (take c.args.moves.closes (path_after [] w)) in
    rw c.in_ok-end_elements.ensures (room_made w closed (starts (elements_of c.args.moves.made)) (start c.args.name.now c.args.foreign c.args.attrs.now ∷ []) c.requires.room)
