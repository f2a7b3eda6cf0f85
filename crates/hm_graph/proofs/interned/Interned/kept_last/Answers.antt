use Rattle.std.proofs.Common.{false, map, sym, subst}
use Rattle.std.specs.List.{All}
use Rattle.std.specs.Prelude.{Bool}
use Rattle.hm_graph.specs.Interned.{IsRow, Leads, InternedView}
use Rattle.hm_graph.specs.declared.plain.PlainRow.{PlainRow}
use Rattle.hm_graph.proofs.Lists.{interned}
use Rattle.hm_graph.proofs.PlainRows.{some_weaker}
use Rattle.hm_graph.proofs.interned.Interned.kept_last.Goals as goal

pub returns : goal.returns
returns c =
    let m : InternedView = interned c.self.inside.table.now c.self.inside.rules (map (λ l. l.items) c.self.inside.lists.items) c.self.inside.steps.items in
    let x : PlainRow = c.in_ok-row.row.now in
    let row : IsRow m false x = c.in_ok-row.ensures.row m false (subst (All (IsRow m false)) (sym c.as_slice.ensures.value) c.self.invariant.4) in
    some_weaker c.step.result (λ to. (w : InternedView) (more : Bool) → IsRow w more x → Leads w x.list x.kind more to c.args.c) (λ to. Leads c.args.self.now c.args.list c.args.kind false to c.args.c)
    (λ to leads.
    subst (λ w. Leads w c.args.list c.args.kind false to c.args.c) c.self.view_is
    (subst (λ k. Leads m c.args.list k false to c.args.c) c.in_ok-row.ensures.kind
    (subst (λ l. Leads m l x.kind false to c.args.c) c.in_ok-row.ensures.list (leads m false row))))
    c.step.ensures
