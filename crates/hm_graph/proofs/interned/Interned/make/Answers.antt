use Rattle.std.proofs.Common.{sym, subst}
use Rattle.hm_graph.specs.Interned.{Grows, IsStepOf}
use Rattle.hm_graph.proofs.Lists.{layer_kept}
use Rattle.hm_graph.proofs.interned.Interned.make.Goals as goal

pub note-requires-clause-list : goal.note-requires-clause-list
note-requires-clause-list c = (c.keep_layer.ensures.kept.lists c.args.front.list c.requires).there

pub note-requires-clause-step : goal.note-requires-clause-step
note-requires-clause-step c =
    layer_kept c.args.self.now c.keep_layer.new.self c.args.front.list c.args.front.unit c.in_ok-number.number c.in_ok-step.after.items c.in_ok-step.step c.keep_layer.ensures.kept c.requires c.in_ok-step.ensures c.in_ok-number.ensures.there c.in_ok-number.ensures.after
    c.in_ok-number.ensures.step

pub returns-in_err-note-clause-kept : goal.returns-in_err-note-clause-kept
returns-in_err-note-clause-kept c = subst (Grows c.args.self.now) (sym c.note.ensures) c.keep_layer.ensures.kept

pub returns-clause-step : goal.returns-clause-step
returns-clause-step c =
    subst (λ w. IsStepOf w c.args.front.list c.args.front.unit c.in_ok-number.number) (sym c.note.ensures)
    (layer_kept c.args.self.now c.keep_layer.new.self c.args.front.list c.args.front.unit c.in_ok-number.number c.in_ok-step.after.items c.in_ok-step.step c.keep_layer.ensures.kept c.requires c.in_ok-step.ensures c.in_ok-number.ensures.there c.in_ok-number.ensures.after
    c.in_ok-number.ensures.step)

pub returns-clause-kept : goal.returns-clause-kept
returns-clause-kept c = subst (Grows c.args.self.now) (sym c.note.ensures) c.keep_layer.ensures.kept
