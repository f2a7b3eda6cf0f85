-- The law of settled walks and the rewrites that options ask for.
use Rattle.std.specs.Prelude.{List}
use Rattle.hm_base.specs.Walks.{Event}
use Rattle.hm_base.specs.declared.plain.TreeOptions.{TreeOptions}
use Rattle.hm_elements.specs.Settled.{Settled}
use Rattle.hm_options.specs.Rewrites.{rewrite}

-- A settled walk stays settled whatever is asked for.
abbrev pub RewrittenIsSettled : Type 0
RewrittenIsSettled = (o : TreeOptions) (w : List Event) → Settled w → Settled (rewrite o w)
