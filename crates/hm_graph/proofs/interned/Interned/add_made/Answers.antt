use Rattle.std.proofs.Common.{◌++◌, ◌∷◌, [], map, sym, subst, true, false}
use Rattle.std.specs.List.{All}
use Rattle.hm_graph.specs.Interned.{AreTold, IsInterned, IsRow, IsMemo, InternedView}
use Rattle.hm_graph.proofs.Lists.{all_kept, all_rows_kept, made_grows, interned}
use Rattle.hm_graph.proofs.interned.Interned.add_made.Goals as goal

pub invariant_of-self-2 : goal.invariant_of-self-2
invariant_of-self-2 c =
    let lists = map (λ l. l.items) c.self.inside.lists.items in
    let before : InternedView = interned c.self.inside.table.now c.self.inside.rules lists c.self.inside.steps.items in
    subst (λ xs. IsInterned (interned c.self.inside.table.now c.self.inside.rules lists xs) × All (IsMemo (interned c.self.inside.table.now c.self.inside.rules lists xs)) c.self.inside.memo.items × AreTold c.self.inside.table.now.entries c.self.inside.told × All (IsRow (interned c.self.inside.table.now c.self.inside.rules lists xs) true) c.self.inside.text_rows.items × All (IsRow (interned c.self.inside.table.now c.self.inside.rules lists xs) false) c.self.inside.last_rows.items) (sym c.in_ok-push.ensures.items) (
      record { nodes = c.self.invariant.0.nodes },
      all_kept before (interned c.self.inside.table.now c.self.inside.rules lists (c.self.inside.steps.items ++ c.args.made ∷ [])) c.self.inside.memo.items (made_grows c.self.inside.table.now c.self.inside.rules lists c.self.inside.steps.items c.args.made) c.self.invariant.1,
      c.self.invariant.2,
      all_rows_kept before (interned c.self.inside.table.now c.self.inside.rules lists (c.self.inside.steps.items ++ c.args.made ∷ [])) true c.self.inside.text_rows.items (made_grows c.self.inside.table.now c.self.inside.rules lists c.self.inside.steps.items c.args.made) c.self.invariant.3,
      all_rows_kept before (interned c.self.inside.table.now c.self.inside.rules lists (c.self.inside.steps.items ++ c.args.made ∷ [])) false c.self.inside.last_rows.items (made_grows c.self.inside.table.now c.self.inside.rules lists c.self.inside.steps.items c.args.made) c.self.invariant.4,
    )
