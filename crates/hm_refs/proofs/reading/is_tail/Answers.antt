use Rattle.std.proofs.Common.{◌∙◌, sym}
use Rattle.hm_refs.proofs.NameForms.{tail_goes_on, tail_stops}
use Rattle.hm_refs.proofs.reading.is_tail.Goals as goal

pub loop-i-preserved : goal.loop-i-preserved
loop-i-preserved c = sym (tail_goes_on c.args.text.now c.loop-i.i c.loop-i-test.true (sym c.is_alnum.ensures ∙ c.if-not-is_alnum.false)) ∙ c.loop-i.invariant

pub returns-then-not-is_alnum : goal.returns-then-not-is_alnum
returns-then-not-is_alnum c = c.is_last_semicolon.ensures ∙ sym (tail_stops c.args.text.now c.loop-i.i c.loop-i-test.true (sym c.is_alnum.ensures ∙ c.if-not-is_alnum.true)) ∙ c.loop-i.invariant
