use Rattle.std.proofs.Common.{◌<◌, length, map, sym, subst, true, false}
use Rattle.std.specs.List.{All}
use Rattle.hm_graph.specs.Interned.{AreTold, IsInterned, IsRow, IsMemo, IsStepOf, InternedView}
use Rattle.hm_graph.specs.declared.made.KnownStep.{KnownStep}
use Rattle.hm_graph.proofs.Lists.{all_noted, interned}
use Rattle.hm_graph.proofs.interned.Interned.note.Goals as goal

pub invariant_of-self-in_err-insert : goal.invariant_of-self-in_err-insert
invariant_of-self-in_err-insert c =
    let m : InternedView = interned c.self.inside.table.now c.self.inside.rules (map (λ l. l.items) c.self.inside.lists.items) c.self.inside.steps.items in
    let x : KnownStep = record { list = c.args.front.list; unit = c.args.front.unit; number = c.args.number } in
    subst (λ xs. IsInterned m × All (IsMemo m) xs × AreTold c.self.inside.table.now.entries c.self.inside.told × All (IsRow m true) c.self.inside.text_rows.items × All (IsRow m false) c.self.inside.last_rows.items) (sym c.in_ok-push.ensures.items) (
      c.self.invariant.0,
      all_noted m c.self.inside.memo.items x c.self.invariant.1 (subst (λ w. c.args.front.list < length w.lists) (sym c.self.view_is) c.requires.list) (subst (λ w. IsStepOf w c.args.front.list c.args.front.unit c.args.number) (sym c.self.view_is) c.requires.step),
      c.self.invariant.2,
      c.self.invariant.3,
      c.self.invariant.4,
    )

pub invariant_of-self-2 : goal.invariant_of-self-2
invariant_of-self-2 c =
    let m : InternedView = interned c.self.inside.table.now c.self.inside.rules (map (λ l. l.items) c.self.inside.lists.items) c.self.inside.steps.items in
    let x : KnownStep = record { list = c.args.front.list; unit = c.args.front.unit; number = c.args.number } in
    subst (λ xs. IsInterned m × All (IsMemo m) xs × AreTold c.self.inside.table.now.entries c.self.inside.told × All (IsRow m true) c.self.inside.text_rows.items × All (IsRow m false) c.self.inside.last_rows.items) (sym c.in_ok-push.ensures.items) (
      c.self.invariant.0,
      all_noted m c.self.inside.memo.items x c.self.invariant.1 (subst (λ w. c.args.front.list < length w.lists) (sym c.self.view_is) c.requires.list) (subst (λ w. IsStepOf w c.args.front.list c.args.front.unit c.args.number) (sym c.self.view_is) c.requires.step),
      c.self.invariant.2,
      c.self.invariant.3,
      c.self.invariant.4,
    )
