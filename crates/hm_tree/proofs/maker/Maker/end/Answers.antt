use Rattle.std.proofs.Common.{Some, sym, ◌∙◌}
use Rattle.hm_tree.specs.Trees.{IsMaking}
use Rattle.hm_tree.proofs.MakingLemmas.{IsMaking-end}
use Rattle.hm_tree.proofs.OpenLemmas.{IsSome-innermost, innermost_within}
use Rattle.hm_tree.proofs.maker.Maker.end.Goals as goal

pub unwrap-start-requires : goal.unwrap-start-requires
unwrap-start-requires c = rw (c.self.invariant.parent, c.self.view_is) (IsSome-innermost c.args.self.now c.requires)

pub parent-parent-requires : goal.parent-parent-requires
parent-parent-requires c =
    innermost_within c.self.inside.rows c.unwrap-start.result (sym c.unwrap-start.ensures ∙ c.self.invariant.parent)

pub invariant_of-self-2 : goal.invariant_of-self-2
invariant_of-self-2 c =
    let making : IsMaking c.self.inside.rows (Some c.unwrap-start.result) c.self.inside.depth = rw (← c.unwrap-start.ensures) c.self.invariant in
    rw (c.in_ok-push_end.ensures.ok, c.parent-parent.ensures) (IsMaking-end c.self.inside.rows c.unwrap-start.result c.self.inside.depth making)
