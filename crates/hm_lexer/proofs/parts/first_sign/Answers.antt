use Rattle.std.proofs.Common.{false, drop, Some, None, sym, ◌∙◌, arith}
use Rattle.std.proofs.lemmas.List.{take_rest}
use Rattle.memchr.specs.Find.{IsFirstByte, Nowhere, Passes}
use Rattle.hm_scan.specs.TextPlaces.{is_sign}
use Rattle.hm_scan.proofs.Firsts.{first_later, none_at_all, none_more}
use Rattle.hm_lexer.proofs.parts.first_sign.Goals as goal

pub loop-i-preserved : goal.loop-i-preserved
loop-i-preserved c = none_more (is_sign false) c.args.bytes.now c.loop-i.i c.loop-i.invariant (sym c.is_sign.ensures ∙ c.if-is_sign.false)

pub returns-in-Some : goal.returns-in-Some
returns-in-Some c =
    let s = c.args.bytes.now in let near = c.min-near.result in
    let none : Nowhere (Passes (is_sign false) s) 0 near = λ k low high. c.loop-i.invariant k low (omega (arith, high, c.loop-i-test.false)) in
    let rest : IsFirstByte (is_sign false) (drop near s) (Some c.in-Some.found) = rw (take_rest s near, c.in-Some.is) at c.memchr2.ensures in
    first_later (is_sign false) s near c.in-Some.found (omega (arith, c.min-near.ensures)) none rest

pub returns-in-None : goal.returns-in-None
returns-in-None c =
    let s = c.args.bytes.now in let near = c.min-near.result in
    let none : Nowhere (Passes (is_sign false) s) 0 near = λ k low high. c.loop-i.invariant k low (omega (arith, high, c.loop-i-test.false)) in
    let rest : IsFirstByte (is_sign false) (drop near s) None = rw (take_rest s near, c.in-None.is) at c.memchr2.ensures in
    none_at_all (is_sign false) s near (omega (arith, c.min-near.ensures)) none rest
