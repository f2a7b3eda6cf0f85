use Rattle.std.proofs.Common.{◌++◌, ◌+◌, ◌%◌, ◌/◌, ◌∷◌, [], reverse, sym, ap, ◌∙◌, append_assoc, arith}
use Rattle.std.specs.Fmt.{decimal}
use Rattle.std.proofs.lemmas.Result.{on_ok_weaker}
use Rattle.hm_cert.proofs.Texts.{turned_pair, turned_two, turned_digit}
use Rattle.hm_cert.proofs.hundreds.put_number.Goals as goal

pub loop-rest-preserved : goal.loop-rest-preserved
loop-rest-preserved c =
    let n = c.loop-rest.rest in
    ap (λ x. x ++ reverse (decimal (n / 100))) c.in_ok-put_pair.ensures
    ∙ append_assoc c.loop-rest.out.items ((48 + n % 100 % 10) ∷ (48 + n % 100 / 10) ∷ []) (reverse (decimal (n / 100)))
    ∙ ap (λ x. c.loop-rest.out.items ++ x) (sym (turned_pair n c.loop-rest-test.true (omega (arith, c.loop-rest.auto.rest-fits))))
    ∙ c.loop-rest.invariant

pub returns-then-rest-ge10 : goal.returns-then-rest-ge10
returns-then-rest-ge10 c =
    let n = c.loop-rest.rest in
    on_ok_weaker c.put_pair-then-rest-ge10.result (λ e. e ∙ ap (λ x. c.loop-rest.out.items ++ x) (sym (turned_two n (omega arith) (omega arith))) ∙ c.loop-rest.invariant) c.put_pair-then-rest-ge10.ensures

pub returns : goal.returns
returns c =
    let n = c.loop-rest.rest in
    c.in_ok-push.ensures.items
    ∙ ap (λ x. c.loop-rest.out.items ++ x) (sym (turned_digit n (omega arith)))
    ∙ c.loop-rest.invariant
