-- Why the tree of a text isn't the wanted one.
use Rattle.std.specs.Prelude.{List, Option, Some, option_map}
use Rattle.hm_base.specs.Walks.{Event}
use Rattle.hm_build.specs.Trees.{Outcome, built, refused_by}
use Rattle.hm_check.specs.Differences.{first_difference}
use Rattle.hm_check.specs.declared.verdicts.Why.{Why}
use Rattle.hm_check.specs.declared.verdicts.Why.TheVariants.{OutRefused, TreesDiffer}

abbrev pub tree_why : List Event → Outcome → Option Why
tree_why w (refused_by rule at) = Some (OutRefused rule at)
tree_why w (built v) = option_map (λ i. TreesDiffer i) (first_difference v w)
