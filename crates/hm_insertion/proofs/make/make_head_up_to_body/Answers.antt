use Rattle.std.proofs.Common.{[], false, refl}
use Rattle.hm_base.specs.Walks.{start}
use Rattle.hm_elements.specs.Names.{head}
use Rattle.hm_tree.proofs.WalkLemmas.{path_after-push}
use Rattle.hm_insertion.specs.Inside.{head_closed}
use Rattle.hm_insertion.proofs.Events.{HasRoom-one}
use Rattle.hm_insertion.proofs.make.make_head_up_to_body.Goals as goal

pub start-requires : goal.start-requires
start-requires c = rw c.new.ensures (HasRoom-one c.args.maker.now (start head false []) head_closed c.requires.room)

pub close_head_and_make_body-requires-clause-open_there : goal.close_head_and_make_body-requires-clause-open_there
close_head_and_make_body-requires-clause-open_there c =
    rw (c.in_ok-start.ensures.ok, path_after-push [] c.args.maker.now, c.requires.open_there) refl
