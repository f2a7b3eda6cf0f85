use Rattle.std.proofs.Common.{◌≡◌, length, Option, Some, None, is_some, false, refl, sym, ap, ◌∙◌}
use Rattle.hm_build.specs.Feeding.{Feeding, depth_at}
use Rattle.hm_build.proofs.Builders.{asked_built, asked_faulty, asked_refused}
use Rattle.hm_build.proofs.fed.PageParser.depth.Goals as goal
use Rattle.hm_build.proofs.fed.PageParser.depth.Goals.{then-is_some-via-then-is_some, then-is_some-via-else-is_some+then-is_some-2}

none_of : {A : Type 0} (o : Option A) → is_some o ≡ false → o ≡ None
none_of None h = refl
none_of (Some f) h = cc

pub returns-then-is_some : goal.returns-then-is_some
returns-then-is_some c = λ fed h.
    elim c.then-is_some.branch [
      | then-is_some-via-then-is_some w ↦ asked_refused depth_at c.args.self.now fed refl h (ap (λ (f : Feeding). is_some f.refused) (sym c.self.view_is) ∙ sym w.if-is_some.ensures)
      | then-is_some-via-else-is_some+then-is_some-2 w ↦ asked_faulty depth_at c.args.self.now fed h (ap (λ (f : Feeding). is_some f.pieces.fault) (sym c.self.view_is) ∙ ap is_some (sym w.fault.ensures) ∙ sym w.if-is_some-2.ensures)
    ]

pub returns : goal.returns
returns c = λ fed h.
    let sound = ap (λ (f : Feeding). f.refused) (sym c.self.view_is) ∙ none_of c.self.inside.refused (sym c.if-is_some.ensures) in
    let none = ap (λ (f : Feeding). f.pieces.fault) (sym c.self.view_is) ∙ sym c.fault.ensures ∙ none_of c.fault.result (sym c.if-is_some-2.ensures) in
    c.depth.ensures ∙ ap (λ (f : Feeding). length f.building.state.path) c.self.view_is ∙ asked_built depth_at c.args.self.now fed h sound none
