use Rattle.std.proofs.Common.{◌<◌, [], true, false, length, get_or, map, sym, subst, arith}
use Rattle.hm_graph.specs.Layers.{HaveNodes}
use Rattle.hm_graph.specs.Interned.{InternedView}
use Rattle.hm_graph.proofs.Lists.{first_nodes, interned}
use Rattle.hm_graph.proofs.interned.Interned.new.Goals as goal

pub invariant_of-result : goal.invariant_of-result
invariant_of-result c =
    let m : InternedView = interned c.args.table.now c.args.rules (map (λ l. l.items) c.in_ok-lists.lists.items) c.new.result.items in (
      record { nodes = λ k. subst (λ lists. HaveNodes c.args.table.now (get_or lists k [])) (sym c.in_ok-lists.ensures) (first_nodes c.args.table.now k) },
      (λ n d within. let none : n < 0 = subst (λ xs. n < length xs) c.new-2.ensures.items within in absurd (omega (arith, none))),
      c.in_ok-told.ensures,
      c.in_ok-text_rows.ensures.text m true,
      c.in_ok-text_rows.ensures.last m false,
    )
