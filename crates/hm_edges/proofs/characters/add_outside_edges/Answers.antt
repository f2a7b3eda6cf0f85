use Rattle.std.proofs.Common.{◌∙◌, map, refl, sym, ap}
use Rattle.hm_edges.proofs.Adding.{adds_none, adds_then, adds_stopped, adds_as}
use Rattle.hm_edges.proofs.SectionEdges.{opened, not_opened, next_for}
use Rattle.hm_edges.specs.States.{where_of, pending_of, state_of}
use Rattle.hm_edges.specs.Characters.{rules_with}
use Rattle.hm_graph_laws.specs.CharacterEdges.{kept_at, choices}
use Rattle.hm_graph_laws.specs.Units.{character, in_text}
use Rattle.std.proofs.Common.{None}
use Rattle.hm_edges.proofs.characters.add_outside_edges.Goals as goal

pub returns-in_err-add_choices : goal.returns-in_err-add_choices
returns-in_err-add_choices c = record {
  known = (c.add_choices.ensures (character in_text c.args.character.c None) refl).known;
  edges = λ u next own is.
      adds_stopped _ _ _ _ _ _ _ _ _ c.in_err-add_choices.was c.from_residual.ensures.0
      (adds_as _ _ _ _ _ _ _ (ap (λ w. map (kept_at (where_of c.args.from.at)) (choices c.args.table.now.entries (rules_with c.args.table.now.entries c.args.ascii) w c.args.character.c c.args.character.pair (pending_of c.args.table.now c.args.from.pending))) c.spot_at-spot.ensures)
      (c.add_choices.ensures u own));
}

pub returns-then-opens : goal.returns-then-opens
returns-then-opens c = record {
  known = λ k. (c.add_opened_sections.ensures c.args.table.now (character in_text c.args.character.c None) (next_for c.args.character.more).0 refl (next_for c.args.character.more).1).known ((c.add_choices.ensures (character in_text c.args.character.c None) refl).known k);
  edges = λ u next own is.
      adds_then _ _ _ _ _ _ _ _ _ _ c.in_ok-add_choices.was
      (adds_as _ _ _ _ _ _ _ (ap (λ w. map (kept_at (where_of c.args.from.at)) (choices c.args.table.now.entries (rules_with c.args.table.now.entries c.args.ascii) w c.args.character.c c.args.character.pair (pending_of c.args.table.now c.args.from.pending))) c.spot_at-spot.ensures)
      (c.add_choices.ensures u own))
      (adds_as _ _ _ _ _ _ _ (opened c.args.ascii c.args.character.kind c.args.character.c next (state_of c.args.table.now c.args.from) (sym (c.may_open-opens.ensures c.args.table.now) ∙ c.if-opens.true))
      (c.add_opened_sections.ensures c.args.table.now u next own is));
}

pub returns-else-opens : goal.returns-else-opens
returns-else-opens c = record {
  known = (c.add_choices.ensures (character in_text c.args.character.c None) refl).known;
  edges = λ u next own is.
      adds_then _ _ _ _ _ _ _ _ _ _ c.in_ok-add_choices.was
      (adds_as _ _ _ _ _ _ _ (ap (λ w. map (kept_at (where_of c.args.from.at)) (choices c.args.table.now.entries (rules_with c.args.table.now.entries c.args.ascii) w c.args.character.c c.args.character.pair (pending_of c.args.table.now c.args.from.pending))) c.spot_at-spot.ensures)
      (c.add_choices.ensures u own))
      (adds_as _ _ _ _ _ _ _ (not_opened c.args.ascii c.args.character.kind c.args.character.c next (state_of c.args.table.now c.args.from) (sym (c.may_open-opens.ensures c.args.table.now) ∙ c.if-opens.false))
      (adds_none _ _ _ _ _ refl));
}
