use Rattle.std.proofs.Common.{◌≡◌, ◌<◌, length, IfSome, map, subst}
use Rattle.std.specs.List.{HoldsAt}
use Rattle.hm_graph.specs.Interned.{InternedView, made_at}
use Rattle.hm_graph.proofs.Lists.{interned, some_made}
use Rattle.hm_graph.proofs.interned.Interned.found_made.Goals as goal

pub returns-clause-made : goal.returns-clause-made
returns-clause-made c =
    let i = c.self.inside in
    let m : InternedView = interned i.table.now i.rules (map (λ l. l.items) i.lists.items) i.steps.items in
    subst (λ w. IfSome c.equal_made.result (λ n. made_at w n ≡ c.args.made.now)) c.self.view_is
    (some_made m c.args.made.now c.equal_made.result
    (subst (λ xs. IfSome c.equal_made.result (λ n. n < length xs)) c.as_slice.ensures.value c.equal_made.ensures.there)
    (subst (λ xs. IfSome c.equal_made.result (HoldsAt (λ y. y.step ≡ c.args.made.now.step) xs)) c.as_slice.ensures.value c.equal_made.ensures.step)
    (subst (λ xs. IfSome c.equal_made.result (HoldsAt (λ y. y.after ≡ c.args.made.now.after) xs)) c.as_slice.ensures.value c.equal_made.ensures.after))
