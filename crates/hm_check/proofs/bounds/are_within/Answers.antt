use Rattle.std.proofs.Common.{◌+◌, ◌^◌, ◌∙◌, None, ap, get_or, map, subst, sym, arith}
use Rattle.std.proofs.lemmas.List.{get_or-map}
use Rattle.hm_cert.specs.Layout.{told}
use Rattle.hm_check.specs.Rows.{is_above}
use Rattle.hm_cert.specs.Rows.{IsBelow}
use Rattle.hm_cert.proofs.Below.{below_in}
use Rattle.hm_check.proofs.Within.{within_end, within_more}
use Rattle.hm_check.proofs.bounds.are_within.Goals as goal

pub more-requires-clause-below : goal.more-requires-clause-below
more-requires-clause-below c =
    subst (IsBelow (2 ^ 63 + 2 ^ 62)) (get_or-map told c.args.next_row.now c.loop-i.i 0 None (omega (arith, c.loop-i-test.true, c.requires.width))) (below_in (map told c.args.next_row.now) (2 ^ 63 + 2 ^ 62) c.loop-i.i c.requires.below)

pub loop-i-preserved : goal.loop-i-preserved
loop-i-preserved c = λ k.
    within_more k c.loop-i.i c.args.len c.args.row.now c.args.next_row.now c.loop-i-test.true (omega (arith, c.loop-i-test.true, c.requires.width)) (sym (c.if-is_above.ensures ∙ ap (is_above (told (get_or c.args.row.now c.loop-i.i 0))) c.more.ensures))
    ∙ c.loop-i.invariant k

pub returns : goal.returns
returns c = λ k _. sym (c.loop-i.invariant k) ∙ within_end k c.loop-i.i c.args.len c.args.row.now c.args.next_row.now c.loop-i-test.false
