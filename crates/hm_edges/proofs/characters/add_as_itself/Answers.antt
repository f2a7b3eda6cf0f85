use Rattle.std.proofs.Common.{◌∙◌, ◌∷◌, [], map, refl, sym, ap, ap₂}
use Rattle.hm_edges.proofs.Adding.{adds_one, adds_none, adds_as}
use Rattle.hm_edges.proofs.RunningOn.{itself_barred, itself_broken, itself_stands}
use Rattle.hm_edges.specs.Characters.{rules_with}
use Rattle.hm_edges.specs.States.{where_of, spot_of, pending_of}
use Rattle.hm_graph_laws.specs.CharacterEdges.{kept_at}
use Rattle.hm_graph_laws.specs.Edges.{edge}
use Rattle.hm_graph_laws.specs.Steps.{run}
use Rattle.std.proofs.Common.{Some}
use Rattle.hm_edges.proofs.characters.add_as_itself.Goals as goal

pub returns-then-not-may_stand : goal.returns-then-not-may_stand
returns-then-not-may_stand c = λ u own.
    adds_as _ _ _ _ _ _ _ (ap (map (kept_at (where_of c.args.from.at))) (itself_barred c.args.table.now.entries (rules_with c.args.table.now.entries c.args.ascii) (spot_of c.args.spot) c.args.c (pending_of c.args.table.now c.args.from.pending) (sym c.may_stand.ensures ∙ c.if-not-may_stand.true)))
    (adds_none _ _ _ _ _ refl)

pub returns-in-None : goal.returns-in-None
returns-in-None c = λ u own.
    adds_as _ _ _ _ _ _ _ (ap (map (kept_at (where_of c.args.from.at))) (itself_broken c.args.table.now.entries (rules_with c.args.table.now.entries c.args.ascii) (spot_of c.args.spot) c.args.c (pending_of c.args.table.now c.args.from.pending) (sym c.may_stand.ensures ∙ c.if-not-may_stand.false)
    (c.in-None.ensures.run ∙ ap (run c.args.table.now.entries (spot_of c.args.spot) (Some (pending_of c.args.table.now c.args.from.pending))) (c.as_bytes-bytes.ensures.value ∙ c.encode_utf8.ensures.value))))
    (adds_none _ _ _ _ _ refl)

pub returns-in-Some : goal.returns-in-Some
returns-in-Some c = λ u own.
    adds_as _ _ _ _ _ _ _ (ap (map (kept_at (where_of c.args.from.at))) (itself_stands c.args.table.now.entries (rules_with c.args.table.now.entries c.args.ascii) (spot_of c.args.spot) c.args.c (pending_of c.args.table.now c.args.from.pending) (pending_of c.args.table.now c.in-Some.after) (sym c.may_stand.ensures ∙ c.if-not-may_stand.false)
    (c.in-Some.ensures.run ∙ ap (run c.args.table.now.entries (spot_of c.args.spot) (Some (pending_of c.args.table.now c.args.from.pending))) (c.as_bytes-bytes.ensures.value ∙ c.encode_utf8.ensures.value))))
    (adds_as _ _ _ _ _ _ _ (ap₂ (λ b p. edge b (where_of c.args.from.at) p ∷ []) own c.itself_to-to.ensures.to)
    (adds_one _ _ _ _ _ _ c.add.ensures (record { name = tt; nodes = c.itself_to-to.ensures.nodes })))
