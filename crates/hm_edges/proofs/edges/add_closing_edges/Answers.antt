use Rattle.hm_edges.proofs.edges.add_closing_edges.Goals as goal

pub returns-then-may_end : goal.returns-then-may_end
returns-then-may_end c = rw (← c.value_spot.ensures, ← c.may_end.ensures, c.if-may_end.true) (c.add_closed.ensures c.args.table.now)
