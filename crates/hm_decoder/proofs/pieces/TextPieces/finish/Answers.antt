use Rattle.std.proofs.Common.{◌≡◌, ℕ, List, [], ◌∷◌, length, get_or, Option, Some, None, true, false, is_some, refl, sym, ap, subst, ◌∙◌, arith, Bool, ◌==◌, nat_eq}
use Rattle.std.specs.Vec.{vec_len}
use Rattle.std.proofs.lemmas.Bool.Decides.{nat_tests}
use Rattle.hm_base.specs.Source.{Source}
use Rattle.hm_base.specs.declared.rules.Rule.TheVariants.{NotUtf8}
use Rattle.hm_decoder.specs.Pieces.{HasFed, Pieces}
use Rattle.hm_decoder.proofs.Feeding.{ends_refused, ends_unfinished, ends_whole, ends_with, grown_end}
use Rattle.hm_decoder.proofs.pieces.TextPieces.finish.Goals as goal
use Rattle.hm_decoder.proofs.pieces.TextPieces.finish.Goals.{then-is_some-via-then-is_some, then-is_some-via-else-is_some+then-is_empty}

some_of : {A : Type 0} (o : Option A) → is_some o ≡ true → (f : A) × (o ≡ Some f)
some_of None h = cc
some_of (Some f) h = (f, refl)

none_of : {A : Type 0} (o : Option A) → is_some o ≡ false → o ≡ None
none_of None h = refl
none_of (Some f) h = cc

no : {b : Bool} → b ≡ true → b ≡ false → ⊥
no e f = cc

empty_of : (s : List ℕ) (n : ℕ) → n ≡ length s → (n == 0) ≡ true → s ≡ []
empty_of [] n l h = refl
empty_of (c ∷ s) n l h = absurd (no h (let some : nat_eq n 0 ≡ false = grind (arith, nat_tests) in some))

first_of : (s : List ℕ) (n d : ℕ) → n ≡ length s → (n == 0) ≡ false → (c : ℕ) × (x : List ℕ) × (s ≡ c ∷ x) × (get_or s 0 d ≡ c)
first_of [] n d l h = absurd (no (ap (λ m. m == 0) l) h)
first_of (c ∷ s) n d l h = (c, s, refl, refl)

pub returns-then-is_some-clause-page : goal.returns-then-is_some-clause-page
returns-then-is_some-clause-page c = λ gone page h.
    elim c.then-is_some.branch [
      | then-is_some-via-then-is_some w ↦
          let f = some_of c.self.inside.fault (sym w.if-is_some.ensures) in
          ends_refused c.args.self.now gone page f.0 h (ap (λ (v : Pieces). v.fault) (sym c.self.view_is) ∙ f.1)
      | then-is_some-via-else-is_some+then-is_empty w ↦
          let none = none_of c.self.inside.fault (sym w.if-is_some.ensures) in
          ends_whole c.args.self.now gone page h (ap (λ (v : Pieces). v.fault) (sym c.self.view_is) ∙ none) (ap (λ (v : Pieces). v.undecided) (sym c.self.view_is) ∙ empty_of c.self.inside.undecided.items (vec_len c.self.inside.undecided) (omega arith) (sym w.if-is_empty.ensures))
    ]

pub invariant_of-self-then-index-eq13 : goal.invariant_of-self-then-index-eq13
invariant_of-self-then-index-eq13 c =
    let first = first_of c.self.inside.undecided.items (vec_len c.self.inside.undecided) 0 (omega arith) (sym c.if-is_empty.ensures) in
    record {
      within = λ e f. omega (arith, c.self.invariant.within c.if-self.false f, ap length first.2, ap (λ (v : Source). v.end) c.in_ok-grow.ensures.grown, grown_end c.self.inside.source (13 ∷ []), ap length c.clear.ensures.items);
      counted = c.self.invariant.counted;
      short = c.self.invariant.short;
    }

pub returns-in_ok-grow-clause-page : goal.returns-in_ok-grow-clause-page
returns-in_ok-grow-clause-page c = λ gone page h.
    let before = subst (λ v. HasFed v gone page) (sym c.self.view_is) h in
    let first = first_of c.self.inside.undecided.items (vec_len c.self.inside.undecided) c.index.result.now (omega arith) (sym c.if-is_empty.ensures) in
    ends_with _ _ gone page first.0 first.1 before (none_of c.self.inside.fault (sym c.if-is_some.ensures)) first.2 (sym first.3 ∙ sym c.index.ensures ∙ c.if-index-eq13.true) refl refl c.in_ok-grow.ensures.grown

pub returns-else-index-eq13-clause-page : goal.returns-else-index-eq13-clause-page
returns-else-index-eq13-clause-page c = λ gone page h.
    let before = subst (λ v. HasFed v gone page) (sym c.self.view_is) h in
    let first = first_of c.self.inside.undecided.items (vec_len c.self.inside.undecided) c.index.result.now (omega arith) (sym c.if-is_empty.ensures) in
    ends_unfinished _ _ gone page first.0 first.1 before (none_of c.self.inside.fault (sym c.if-is_some.ensures)) first.2 (λ e. c.if-index-eq13.false (c.index.ensures ∙ first.3 ∙ e)) refl (ap (λ n. Some (NotUtf8, n)) c.end.ensures)
