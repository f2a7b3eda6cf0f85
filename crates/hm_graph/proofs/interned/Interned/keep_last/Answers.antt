use Rattle.std.proofs.Common.{◌<◌, false, map, arith, sym, subst}
use Rattle.hm_graph.specs.Interned.{Leads, InternedView}
use Rattle.hm_graph.proofs.Lists.{interned}
use Rattle.hm_graph.proofs.interned.Interned.keep_last.Goals as goal

pub invariant_of-self : goal.invariant_of-self
invariant_of-self c =
    let m : InternedView = interned c.self.inside.table.now c.self.inside.rules (map (λ l. l.items) c.self.inside.lists.items) c.self.inside.steps.items in
    let ascii : c.args.c < 128 = omega (arith, c.if-c-ge128.false) in
    let own : Leads m c.args.list c.args.kind false c.args.to c.args.c = subst (λ w. Leads w c.args.list c.args.kind false c.args.to c.args.c) (sym c.self.view_is) (c.requires ascii) in
    (c.self.invariant.0, c.self.invariant.1, c.self.invariant.2, c.self.invariant.3, c.keep.ensures m false c.self.invariant.4 own)
