use Rattle.std.proofs.Common.{[], ◌∷◌, ◌++◌, false, subst}
use Rattle.hm_base.specs.Walks.{start}
use Rattle.hm_elements.specs.Names.{html, head}
use Rattle.hm_tree.specs.Trees.{HasRoom}
use Rattle.hm_insertion.specs.BeforeBody.{head_opened}
use Rattle.hm_insertion.proofs.Events.{HasRoom-one}
use Rattle.hm_insertion.proofs.before_body.open_missing_head.Goals as goal

pub start-requires : goal.start-requires
start-requires c =
    let w = c.args.maker.now in
    rw c.new.ensures (HasRoom-one w (start html false []) (start head false [] ∷ []) (subst (λ ph. HasRoom (w ++ head_opened ph)) c.in-BeforeHtml.is c.requires))
