use Rattle.std.proofs.Common.{◌≡◌, Option, Some, None, is_some, true, false, refl, sym, ap, subst, ◌∙◌}
use Rattle.hm_build.specs.Feeding.{HasCome}
use Rattle.hm_build.proofs.Builders.{comes_on_with, stays_refused}
use Rattle.hm_build.proofs.fed.PageParser.gather.Goals as goal
use Rattle.hm_build.proofs.fed.PageParser.gather.Goals.{then-is_some-via-then-is_some, then-is_some-via-else-is_some+then-is_some-2}

none_of : {A : Type 0} (o : Option A) → is_some o ≡ false → o ≡ None
none_of None h = refl
none_of (Some f) h = cc

not_none : {A : Type 0} (o : Option A) → is_some o ≡ true → o ≡ None → ⊥
not_none None h e = cc
not_none (Some f) h e = cc

pub returns-then-is_some-clause-come : goal.returns-then-is_some-clause-come
returns-then-is_some-clause-come c = λ fed h.
    stays_refused _ _ c.feed.new.self c.args.piece.now fed (subst (λ f. HasCome f fed) (sym c.self.view_is) h) c.in_ok-feed.ensures.fed c.drop_all.ensures.fed c.feed.ensures.limit c.drop_all.ensures.fault refl refl c.drop_all.ensures.empty
    (λ none sound. elim c.then-is_some.branch [
      | then-is_some-via-then-is_some w ↦ not_none c.self.inside.refused (sym w.if-is_some.ensures) sound
      | then-is_some-via-else-is_some+then-is_some-2 w ↦ not_none c.feed.new.self.fault (ap is_some (sym w.fault.ensures) ∙ sym w.if-is_some-2.ensures) none
    ])

pub returns-clause-come : goal.returns-clause-come
returns-clause-come c = λ fed h.
    let none = sym c.fault.ensures ∙ none_of c.fault.result (sym c.if-is_some-2.ensures) in
    let sound = none_of c.self.inside.refused (sym c.if-is_some.ensures) in
    comes_on_with _ _ c.args.piece.now fed (subst (λ f. HasCome f fed) (sym c.self.view_is) h) c.in_ok-feed.ensures.fed c.feed.ensures.limit none sound sound refl refl
