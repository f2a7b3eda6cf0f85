use Rattle.std.proofs.Common.{◌∙◌, sym}
use Rattle.hm_elements.proofs.Among.{among_found, among_passed, among_end}
use Rattle.hm_elements.proofs.look_up.is_one_of.Goals as goal

pub returns-then-same_name : goal.returns-then-same_name
returns-then-same_name c = sym (among_found _ _ _ _ c.loop-n-test.true (sym c.same_name.ensures ∙ c.if-same_name.true)) ∙ c.loop-n.invariant

pub loop-n-preserved : goal.loop-n-preserved
loop-n-preserved c = sym (among_passed _ _ _ _ c.loop-n-test.true (sym c.same_name.ensures ∙ c.if-same_name.false)) ∙ c.loop-n.invariant

pub returns : goal.returns
returns c = sym (among_end _ _ _ c.loop-n-test.false) ∙ c.loop-n.invariant
