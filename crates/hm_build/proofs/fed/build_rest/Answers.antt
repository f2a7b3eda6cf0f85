use Rattle.std.proofs.Common.{sym, ap, ◌∙◌}
use Rattle.hm_base.specs.Source.{Source}
use Rattle.hm_build.specs.Parsing.{left_tree, reads}
use Rattle.hm_build.proofs.fed.build_rest.Goals as goal

pub returns-in-Ok-clause-built : goal.returns-in-Ok-clause-built
returns-in-Ok-clause-built c = ap (λ (v : Source). left_tree (reads c.args.table.now.entries v) c.args.tree) (sym c.source.ensures) ∙ c.in-Ok.ensures.built
