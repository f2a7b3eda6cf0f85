use Rattle.std.proofs.Common.{◌∙◌, true, false, map, refl, sym, ap}
use Rattle.hm_edges.proofs.Adding.{adds_one, adds_none, adds_then, adds_stopped, adds_as}
use Rattle.hm_edges.proofs.Choices.{due_choice, other_choices}
use Rattle.hm_edges.specs.States.{where_of, spot_of, pending_of}
use Rattle.hm_edges.specs.Characters.{rules_with}
use Rattle.hm_graph_laws.specs.CharacterEdges.{kept_at, half_of}
use Rattle.hm_edges.proofs.characters.add_choices.Goals as goal

pub returns-in-Some : goal.returns-in-Some
returns-in-Some c = λ u own.
    adds_as _ _ _ _ _ _ _ (ap (map (kept_at (where_of c.args.from.at))) (due_choice (half_of (pending_of c.args.table.now c.args.from.pending)) (pending_of c.args.table.now c.in-Some.to) c.args.table.now.entries (rules_with c.args.table.now.entries c.args.ascii) (spot_of c.args.spot) c.args.c c.args.pair (pending_of c.args.table.now c.args.from.pending) (c.in-Some.ensures.to c.args.table.now)))
    (adds_one _ _ _ _ _ _ c.add.ensures (record { name = tt; nodes = c.in-Some.ensures.nodes c.args.table.now c.requires }))

pub returns-in_err-add_as_itself : goal.returns-in_err-add_as_itself
returns-in_err-add_as_itself c = λ u own.
    adds_as _ _ _ _ _ _ _ (other_choices (where_of c.args.from.at) (half_of (pending_of c.args.table.now c.args.from.pending)) c.args.table.now.entries (rules_with c.args.table.now.entries c.args.ascii) (spot_of c.args.spot) c.args.c c.args.pair (pending_of c.args.table.now c.args.from.pending) c.may_refer-refers.result (c.in_default.ensures.to c.args.table.now) c.may_refer-refers.ensures)
    (adds_stopped _ _ _ _ _ _ _ _ _ c.in_err-add_as_itself.was c.from_residual.ensures.0 (c.add_as_itself.ensures u own))

pub returns-then-refers : goal.returns-then-refers
returns-then-refers c = λ u own.
    adds_as _ _ _ _ _ _ _ (other_choices (where_of c.args.from.at) (half_of (pending_of c.args.table.now c.args.from.pending)) c.args.table.now.entries (rules_with c.args.table.now.entries c.args.ascii) (spot_of c.args.spot) c.args.c c.args.pair (pending_of c.args.table.now c.args.from.pending) true (c.in_default.ensures.to c.args.table.now) (sym c.if-refers.true ∙ c.may_refer-refers.ensures))
    (adds_then _ _ _ _ _ _ _ _ _ _ c.in_ok-add_as_itself.was (c.add_as_itself.ensures u own) (c.add_references.ensures u))

pub returns-else-refers : goal.returns-else-refers
returns-else-refers c = λ u own.
    adds_as _ _ _ _ _ _ _ (other_choices (where_of c.args.from.at) (half_of (pending_of c.args.table.now c.args.from.pending)) c.args.table.now.entries (rules_with c.args.table.now.entries c.args.ascii) (spot_of c.args.spot) c.args.c c.args.pair (pending_of c.args.table.now c.args.from.pending) false (c.in_default.ensures.to c.args.table.now) (sym c.if-refers.false ∙ c.may_refer-refers.ensures))
    (adds_then _ _ _ _ _ _ _ _ _ _ c.in_ok-add_as_itself.was (c.add_as_itself.ensures u own) (adds_none _ _ _ _ _ refl))
