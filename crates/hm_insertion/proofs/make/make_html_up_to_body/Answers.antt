use Rattle.std.proofs.Common.{[], false, refl}
use Rattle.hm_base.specs.Walks.{start}
use Rattle.hm_elements.specs.Names.{html}
use Rattle.hm_tree.proofs.WalkLemmas.{path_after-push}
use Rattle.hm_insertion.specs.Inside.{head_made}
use Rattle.hm_insertion.proofs.Events.{HasRoom-one}
use Rattle.hm_insertion.proofs.make.make_html_up_to_body.Goals as goal

pub start-requires : goal.start-requires
start-requires c = rw c.new.ensures (HasRoom-one c.args.maker.now (start html false []) head_made c.requires.room)

pub make_head_up_to_body-requires-clause-open_there : goal.make_head_up_to_body-requires-clause-open_there
make_head_up_to_body-requires-clause-open_there c =
    rw (c.in_ok-start.ensures.ok, path_after-push [] c.args.maker.now, c.requires.open_there) refl
