use Rattle.std.proofs.Common.{Some, refl, sym, subst, ap, ◌∙◌, ◌||◌}
use Rattle.hm_graph_laws.specs.States.{nothing}
use Rattle.hm_spelling_spec.specs.Characters.{double, is_barred}
use Rattle.hm_order.specs.Weights.{AreEasy, are_literal, ends, literal, some_barred}
use Rattle.hm_order.proofs.Scans.{all_given, barred_push, easy_push, given_more, literals_push}
use Rattle.hm_order.proofs.scan.scan.Goals as goal

pub loop-c-init : goal.loop-c-init
loop-c-init c = record {
  given = cc (c.into_iter-c-iterator.ensures.into_iter_gives, c.chars-c-items.ensures.rest);
  easy = tt;
  barred = refl;
  pending = refl;
  nodes = tt;
}

pub loop-c-preserved : goal.loop-c-preserved
loop-c-preserved c =
    let t = c.args.table.now.entries in
    record {
      given = given_more c.loop-c.yielded c.loop-c.c-iterator.rest.now c.next.new.self.rest.now c.args.value.now c.in-Some.c c.loop-c.invariant.given c.in-Some.ensures.steps.0;
      easy = easy_push t c.args.ascii c.args.low c.loop-c.yielded c.in-Some.c c.loop-c.invariant.easy c.in_ok-seen.ensures.easy;
      barred = c.in_ok-seen.ensures.barred ∙ ap (λ b. b || is_barred c.in-Some.c) c.loop-c.invariant.barred ∙ sym (barred_push c.loop-c.yielded c.in-Some.c);
      pending = literals_push t (Some nothing) c.loop-c.yielded c.in-Some.c ∙ ap (λ p. literal t double p c.in-Some.c) c.loop-c.invariant.pending ∙ c.in_ok-seen.ensures.literal;
      nodes = c.in_ok-seen.ensures.nodes;
    }

pub returns-then-may_end-clause-easy : goal.returns-then-may_end-clause-easy
returns-then-may_end-clause-easy c = subst (AreEasy c.args.table.now.entries c.args.ascii c.args.low) (all_given c.loop-c.yielded c.loop-c.c-iterator.rest.now c.args.value.now c.utf8.value c.loop-c.invariant.given c.in-None.ensures.steps.0.0) c.loop-c.invariant.easy

pub returns-then-may_end-clause-literal : goal.returns-then-may_end-clause-literal
returns-then-may_end-clause-literal c =
    let t = c.args.table.now.entries in
    ap (are_literal t) (sym (all_given c.loop-c.yielded c.loop-c.c-iterator.rest.now c.args.value.now c.utf8.value c.loop-c.invariant.given c.in-None.ensures.steps.0.0))
    ∙ ap (ends t double) c.loop-c.invariant.pending ∙ sym c.may_end.ensures ∙ c.if-may_end.true

pub returns-then-may_end-clause-barred : goal.returns-then-may_end-clause-barred
returns-then-may_end-clause-barred c = c.loop-c.invariant.barred ∙ ap some_barred (all_given c.loop-c.yielded c.loop-c.c-iterator.rest.now c.args.value.now c.utf8.value c.loop-c.invariant.given c.in-None.ensures.steps.0.0)
