use Rattle.std.proofs.Common.{[], ◌∷◌, ◌++◌, false, subst}
use Rattle.hm_open_elements.specs.Answers.{elements_of}
use Rattle.hm_tree.specs.Trees.{HasRoom}
use Rattle.hm_construction_laws.specs.Steps.{starts}
use Rattle.hm_base.specs.Walks.{start}
use Rattle.hm_elements.specs.Names.{tbody, tr}
use Rattle.hm_insertion.proofs.Events.{HasRoom-one}
use Rattle.hm_insertion.proofs.moves.start_made.Goals as goal

pub start-requires-in-SectionAndRow : goal.start-requires-in-SectionAndRow
start-requires-in-SectionAndRow c = HasRoom-one c.args.maker.now (start tbody false []) (start tr false [] ∷ []) (subst (λ m. HasRoom (c.args.maker.now ++ starts (elements_of m))) c.in-SectionAndRow.is c.requires)
