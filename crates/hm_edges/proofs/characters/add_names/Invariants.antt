use Rattle.std.proofs.Common.{◌∷◌, drop, is_some, option_to_list}
use Rattle.hm_graph_laws.specs.Units.{Unit}
use Rattle.hm_edges.specs.Characters.{after_by}
use Rattle.hm_edges.specs.States.{where_of}
use Rattle.hm_edges.proofs.NamesFor.{SomeNames}
use Rattle.hm_edges.proofs.characters.add_names.Given as goal

abbrev pub invariant-loop-id : goal.invariant-loop-id
invariant-loop-id l = (u : Unit) → SomeNames l.table u l.fn.into.items l.into.items (where_of l.at) (after_by (is_some l.second)) (l.fn.c ∷ option_to_list l.second) (drop l.id-index l.id-items)
