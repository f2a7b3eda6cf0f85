use Rattle.std.proofs.Common.{◌∙◌, ◌+◌, ◌++◌, take, ap, sym, subst}
use Rattle.hm_edges.specs.Pieces.{AreOfTable, edges_seen}
use Rattle.hm_graph.proofs.KeptEdges.{SomeKept, all_kept, is_dominated, up_to_end, kept_next, known_at, known_after, known_front, known_next}
use Rattle.hm_optimality_laws.specs.Dominated.{dominance, kept_edges}
use Rattle.hm_graph.proofs.dominated.without_dominated.Goals as goal

pub loop-place-preserved : goal.loop-place-preserved
loop-place-preserved c = record {
  edges = λ u stands.
      subst (λ kept. SomeKept c.args.table.now u c.args.edges.now kept (c.loop-place.place + 1)) (sym c.in_ok-keep.ensures)
      (kept_next c.args.table.now u c.args.edges.now c.loop-place.kept.items c.loop-place.place c.index-edges-place.result c.is_dominated-dominated.result c.loop-place-test.true c.index-edges-place.is
      (c.is_dominated-dominated.ensures u stands
      ∙ ap (λ after. is_dominated c.args.table.now u c.index-edges-place.result (take c.loop-place.place c.args.edges.now) after) (up_to_end c.args.edges.now (c.loop-place.place + 1)))
      (c.loop-place.invariant.edges u stands));
  known = subst (AreOfTable c.args.table.now) (sym c.in_ok-keep.ensures)
      (known_next c.args.table.now c.loop-place.kept.items c.index-edges-place.result c.is_dominated-dominated.result c.loop-place.invariant.known (known_at c.args.table.now c.args.edges.now c.loop-place.place c.index-edges-place.result c.requires c.loop-place-test.true c.index-edges-place.is));
}

pub loop-place-init : goal.loop-place-init
loop-place-init c = record {
  edges = λ u stands. ap (λ kept. edges_seen c.args.table.now u kept ++ kept_edges (dominance c.args.table.now.entries) u (edges_seen c.args.table.now u c.args.edges.now)) c.new-kept.ensures.items;
  known = subst (AreOfTable c.args.table.now) (sym c.new-kept.ensures.items) tt;
}

pub is_dominated-dominated-requires-clause-edge : goal.is_dominated-dominated-requires-clause-edge
is_dominated-dominated-requires-clause-edge c = known_at c.args.table.now c.args.edges.now c.loop-place.place c.index-edges-place.result c.requires c.loop-place-test.true c.index-edges-place.is

pub is_dominated-dominated-requires-clause-front : goal.is_dominated-dominated-requires-clause-front
is_dominated-dominated-requires-clause-front c = known_front c.args.table.now c.args.edges.now c.loop-place.place c.requires

pub is_dominated-dominated-requires-clause-after : goal.is_dominated-dominated-requires-clause-after
is_dominated-dominated-requires-clause-after c =
    subst (AreOfTable c.args.table.now) (sym (up_to_end c.args.edges.now (c.loop-place.place + 1))) (known_after c.args.table.now c.args.edges.now (c.loop-place.place + 1) c.requires)

pub returns-clause-edges : goal.returns-clause-edges
returns-clause-edges c = λ u stands. all_kept c.args.table.now u c.args.edges.now c.loop-place.kept.items c.loop-place.place c.loop-place-test.false (c.loop-place.invariant.edges u stands)

pub returns-clause-known : goal.returns-clause-known
returns-clause-known c = c.loop-place.invariant.known
