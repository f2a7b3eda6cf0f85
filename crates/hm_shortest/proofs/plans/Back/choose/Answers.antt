use Rattle.std.proofs.Common.{◌≡◌, ◌∙◌, ◌<◌, ap, map, sym, subst}
use Rattle.hm_cert.specs.Layout.{told}
use Rattle.hm_graph.specs.Ways.{choice}
use Rattle.hm_shortest.proofs.FewChoices.{choice_fits}
use Rattle.hm_shortest.proofs.plans.Back.choose.Goals as goal

pub put_choice-requires : goal.put_choice-requires
put_choice-requires c =
    let next_row = map told c.deref.result.now in
    subst (λ n. n < 256) (sym (c.find_best-best.ensures.place ∙ ap (choice next_row) c.hops.ensures)) (choice_fits next_row c.args.step.now 0 c.requires.few)
