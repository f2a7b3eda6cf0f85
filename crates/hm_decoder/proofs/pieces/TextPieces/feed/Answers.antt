use Rattle.std.proofs.Common.{◌≡◌, Option, Some, None, true, false, is_some, refl, sym, subst}
use Rattle.hm_decoder.specs.Pieces.{HasFed}
use Rattle.hm_decoder.proofs.Feeding.{feeds_on, stays_refused}
use Rattle.hm_decoder.proofs.pieces.TextPieces.feed.Goals as goal

some_of : {A : Type 0} (o : Option A) → is_some o ≡ true → (f : A) × (o ≡ Some f)
some_of None h = cc
some_of (Some f) h = (f, refl)

none_of : {A : Type 0} (o : Option A) → is_some o ≡ false → o ≡ None
none_of None h = refl
none_of (Some f) h = cc

pub returns-then-is_some-clause-fed : goal.returns-then-is_some-clause-fed
returns-then-is_some-clause-fed c = λ gone fed h.
    let f = some_of c.self.inside.fault (sym c.if-is_some.ensures) in
    stays_refused _ _ gone fed c.args.piece.now f.0 (subst (λ v. HasFed v gone fed) (sym c.self.view_is) h) f.1 c.if-piece-self.false c.self.invariant.counted refl refl refl

pub returns-clause-fed : goal.returns-clause-fed
returns-clause-fed c = λ gone fed h.
    let before = subst (λ v. HasFed v gone fed) (sym c.self.view_is) h in
    let none = none_of c.self.inside.fault (sym c.if-is_some.ensures) in
    let taken = c.in_ok-self-inside.ensures in
    feeds_on _ _ gone fed c.args.piece.now before none c.if-piece-self.false c.self.invariant.counted refl refl taken.fault taken.source taken.undecided
