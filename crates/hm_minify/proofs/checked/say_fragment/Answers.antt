use Rattle.std.proofs.Common.{rules, ap, refl, subst, sym, ◌∙◌}
use Rattle.std.proofs.lemmas.Result.{IfOk-weaker}
use Rattle.hm_base.specs.declared.rules.Rule.TheVariants.{TooLong}
use Rattle.hm_input.specs.Pages.{IsRefusedAs}
use Rattle.hm_check.specs.declared.verdicts.Why.TheVariants.{OutRefused}
use Rattle.hm_input.specs.Frames.{unframed}
use Rattle.hm_minify.specs.Endings.{out_fragment, says}
use Rattle.hm_minify.specs.Lines.{why_line}
use Rattle.hm_minify.specs.declared.status.Status.TheVariants.{No}
use Rattle.hm_minify.proofs.Found.{long_said, no_said, short_fragment, yes_said}
use Rattle.hm_minify.proofs.checked.say_fragment.Goals as goal

pub returns-then-len-clause-ended : goal.returns-then-len-clause-ended
returns-then-len-clause-ended c = IfOk-weaker c.say_refused.result _ _
    (λ ended e. long_said c.args.table.now.entries c.args.page.items c.args.found ended c.requires.front (search rules) (e ∙ ap (λ n. says No (why_line (OutRefused TooLong n))) c.fragment_limit.ensures)) c.say_refused.ensures.ended

pub returns-in-Yes-clause-ended : goal.returns-in-Yes-clause-ended
returns-in-Yes-clause-ended c = IfOk-weaker c.say.result _ _
    (λ ended e. yes_said c.args.found (out_fragment c.args.table.now.entries (unframed c.args.page.items)) c.in-Ok._tree c.in-Yes.length _ ended c.in-Yes.is
    (short_fragment c.args.table.now.entries c.args.page.items _ c.requires.front (search rules) c.in-Ok.ensures.built) c.without_front.ensures e) c.say.ensures.ended

pub returns-in-Ok-clause-ended : goal.returns-in-Ok-clause-ended
returns-in-Ok-clause-ended c = IfOk-weaker c.say-in-No.result _ _
    (λ ended e. no_said c.args.found (out_fragment c.args.table.now.entries (unframed c.args.page.items)) c.in-Ok._tree c.in-No.why ended c.in-No.is
    (short_fragment c.args.table.now.entries c.args.page.items _ c.requires.front (search rules) c.in-Ok.ensures.built) e) c.say-in-No.ensures.ended

pub returns-clause-ended : goal.returns-clause-ended
returns-clause-ended c = IfOk-weaker c.say_no_fragment.result _ _
    (λ ended e. e c.args.found (out_fragment c.args.table.now.entries (unframed c.args.page.items))
    (subst (λ o. IsRefusedAs o c.in-Err.refused) (sym (short_fragment c.args.table.now.entries c.args.page.items _ c.requires.front (search rules) refl)) c.in-Err.ensures.refused)) c.say_no_fragment.ensures.ended
