use Rattle.std.proofs.Common.{◌≡◌, ◌∙◌, None, Some, true, ap, sym, subst}
use Rattle.hm_edges.specs.Units.{pair_of}
use Rattle.hm_edges.specs.declared.units.Unit.TheVariants.{Character}
use Rattle.hm_graph.specs.Interned.{BeginsNoPair, Grows, IsStepOf, made_at}
use Rattle.hm_graph.proofs.PairNames.{none_paired}
use Rattle.hm_graph.proofs.interned.Interned.character_step.Goals as goal

pub returns-then-not-is_lone-clause-step : goal.returns-then-not-is_lone-clause-step
returns-then-not-is_lone-clause-step c = subst (λ unit. IsStepOf c.step.new.self c.args.list unit c.in_ok-number.number) (c.character_in_front-unit.ensures ∙ ap (λ pair. Character c.args.kind c.args.c pair true) c.pair_of-pair.ensures) c.in_ok-number.ensures.step

pub keep_text-requires : goal.keep_text-requires
keep_text-requires c = λ ascii.
    let m = c.step.new.self in
    let lone : BeginsNoPair m.table.entries c.args.c = c.is_lone.ensures c.if-not-is_lone.false in
    let own : BeginsNoPair c.args.self.now.table.entries c.args.c = subst (λ t. BeginsNoPair t.entries c.args.c) c.step.ensures.kept.table lone in
    let none : c.pair_of-pair.result ≡ None = c.pair_of-pair.ensures ∙ none_paired c.args.self.now.table.entries c.args.c c.args.next own in
    record {
      ascii = ascii;
      from = (c.step.ensures.kept.lists c.args.list c.requires).there;
      step = subst (λ unit. IsStepOf m c.args.list unit c.in_ok-number.number) (c.character_in_front-unit.ensures ∙ ap (λ pair. Character c.args.kind c.args.c pair true) none) c.in_ok-number.ensures.step;
      after = c.after-after.ensures;
      lone = λ more. lone;
    }

pub returns-in_err-keep_text-clause-kept : goal.returns-in_err-keep_text-clause-kept
returns-in_err-keep_text-clause-kept c = subst (Grows c.args.self.now) (sym c.keep_text.ensures) c.step.ensures.kept

pub returns-clause-step : goal.returns-clause-step
returns-clause-step c =
    subst (λ m. IsStepOf m c.args.list (Character c.args.kind c.args.c (pair_of c.args.self.now.table.entries c.args.c (Some c.args.next)) true) c.in_ok-number.number) (sym c.keep_text.ensures)
    (subst (λ unit. IsStepOf c.step.new.self c.args.list unit c.in_ok-number.number) (c.character_in_front-unit.ensures ∙ ap (λ pair. Character c.args.kind c.args.c pair true) c.pair_of-pair.ensures) c.in_ok-number.ensures.step)

pub returns-clause-after : goal.returns-clause-after
returns-clause-after c = subst (λ m. c.after-after.result ≡ (made_at m c.in_ok-number.number).after) (sym c.keep_text.ensures) c.after-after.ensures

pub returns-clause-kept : goal.returns-clause-kept
returns-clause-kept c = subst (Grows c.args.self.now) (sym c.keep_text.ensures) c.step.ensures.kept
