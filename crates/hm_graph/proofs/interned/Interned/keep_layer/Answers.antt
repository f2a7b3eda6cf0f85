use Rattle.std.proofs.Common.{◌≡◌, sym, ap, subst}
use Rattle.std.proofs.lemmas.Result.{IfOk-weaker}
use Rattle.hm_graph.specs.Interned.{IsListOf, made_at}
use Rattle.hm_graph.specs.declared.made.MadeStep.{MadeStep}
use Rattle.hm_graph.proofs.Lists.{grows_on, list_kept}
use Rattle.hm_graph.proofs.interned.Interned.keep_layer.Goals as goal

pub returns-clause-after : goal.returns-clause-after
returns-clause-after c =
    let m = c.made_of.new.self in
    let made : MadeStep = record { step = c.args.step; after = c.in_ok-list.list } in
    let list : IsListOf m c.args.after.items made.after = list_kept c.list_of.new.self m c.args.after.items made.after c.made_of.ensures.kept c.in_ok-list.ensures.list in
    IfOk-weaker c.made_of.result (λ n. made_at m n ≡ made) (λ n. IsListOf m c.args.after.items (made_at m n).after) (λ n is. subst (λ x. IsListOf m c.args.after.items x.after) (sym is) list) c.made_of.ensures.made

pub returns-clause-step : goal.returns-clause-step
returns-clause-step c =
    let m = c.made_of.new.self in
    let made : MadeStep = record { step = c.args.step; after = c.in_ok-list.list } in
    IfOk-weaker c.made_of.result (λ n. made_at m n ≡ made) (λ n. (made_at m n).step ≡ c.args.step) (λ n is. ap (λ x. x.step) is) c.made_of.ensures.made

pub returns-clause-kept : goal.returns-clause-kept
returns-clause-kept c = grows_on c.args.self.now c.list_of.new.self c.made_of.new.self c.list_of.ensures.kept c.made_of.ensures.kept
