use Rattle.std.proofs.Common.{◌∙◌, ap, sym}
use Rattle.std.proofs.lemmas.Result.{IfOk-weaker}
use Rattle.hm_input.proofs.Fragments.{with_front}
use Rattle.hm_input.specs.Frames.{unframed}
use Rattle.hm_check.specs.Verdicts.{verdict}
use Rattle.hm_minify.specs.Endings.{out_fragment}
use Rattle.hm_minify.proofs.Found.{differ_said, same_said}
use Rattle.hm_minify.proofs.checked.find_fragment.Goals as goal

pub returns-then-rules_differ-clause-ended : goal.returns-then-rules_differ-clause-ended
returns-then-rules_differ-clause-ended c = IfOk-weaker c.say.result _ _ (λ ended e. differ_said _ _ (out_fragment c.args.input.now.table.entries (unframed c.args.page.items)) ended (c.in_ok-found.ensures ∙ ap (λ x. verdict c.args.input.now.table.entries c.args.rules c.args.input.now.tree x c.args.certificate.now) (c.as_slice.ensures.value ∙ sym (with_front c.args.page.items c.requires.front)))
    (sym c.rules_differ.ensures ∙ c.if-rules_differ.true) e) c.say.ensures.ended

pub returns-clause-ended : goal.returns-clause-ended
returns-clause-ended c = IfOk-weaker c.say_fragment.result _ _ (λ ended e. same_said _ _ (out_fragment c.args.input.now.table.entries (unframed c.args.page.items)) ended (c.in_ok-found.ensures ∙ ap (λ x. verdict c.args.input.now.table.entries c.args.rules c.args.input.now.tree x c.args.certificate.now) (c.as_slice.ensures.value ∙ sym (with_front c.args.page.items c.requires.front)))
    (sym c.rules_differ.ensures ∙ c.if-rules_differ.false) e) c.say_fragment.ensures.ended
