use Rattle.std.proofs.Common.{◌∙◌, ◌∷◌, ap}
use Rattle.hm_edges.proofs.Adding.{adds_if, adds_as}
use Rattle.hm_edges.proofs.NamesFor.{name_edge}
use Rattle.hm_edges.specs.Characters.{after_by}
use Rattle.hm_edges.specs.States.{where_of}
use Rattle.hm_refs.specs.Tables.{entry_at}
use Rattle.std.proofs.Common.{is_some, option_to_list}
use Rattle.hm_edges.proofs.characters.add_name.Goals as goal

pub returns : goal.returns
returns c = λ u.
    adds_as _ _ _ _ _ _ _ (name_edge (where_of c.args.at) (after_by (is_some c.args.second)) (c.args.c ∷ option_to_list c.args.second) (entry_at c.args.table.now.entries c.args.id) _ _ c.gives-there.ensures (c.after_by-to.ensures.to ∙ ap (λ b. after_by b (entry_at c.args.table.now.entries c.args.id).name) c.is_some.ensures))
    (adds_if _ _ _ _ _ _ _ c.add_if.ensures (λ _. record { name = c.requires; nodes = c.after_by-to.ensures.nodes }))
