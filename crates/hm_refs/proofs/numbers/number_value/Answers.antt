use Rattle.std.proofs.Common.{◌≡◌, ℕ, ◌∙◌, ap, Option, Some, None, unwrap_or, inl, inr, sym, refl}
use Rattle.hm_refs.specs.Numbers.{or_number}
use Rattle.hm_refs.proofs.NumberLaws.{point_replaced, point_missing}
use Rattle.hm_refs.proofs.numbers.number_value.Goals as goal

or_same : (o : Option ℕ) (c n : ℕ) → c ≡ n → unwrap_or o c ≡ or_number o n
or_same None c n e = e
or_same (Some m) c n e = refl

pub returns-then-n-eq0 : goal.returns-then-n-eq0
returns-then-n-eq0 c = sym (point_missing c.args.n (inl c.if-n-eq0.true))

pub returns-in-Some : goal.returns-in-Some
returns-in-Some c =
    let e = c.in-Some.ensures in
    c.unwrap_or.ensures ∙ or_same c.replacement.result c.in-Some.c c.args.n e.value.1 ∙ ap (λ o. or_number o c.args.n) c.replacement.ensures
    ∙ sym (point_replaced c.args.n c.if-n-eq0.false e.cases)

pub returns-in-None : goal.returns-in-None
returns-in-None c = sym (point_missing c.args.n (inr c.in-None.ensures.cases))
