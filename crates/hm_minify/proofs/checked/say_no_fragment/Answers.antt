use Rattle.std.proofs.Common.{subst}
use Rattle.std.proofs.lemmas.Result.{IfOk-weaker}
use Rattle.hm_input.specs.Pages.{IsRefusedAs}
use Rattle.hm_minify.proofs.Found.{refused_said}
use Rattle.hm_minify.proofs.checked.say_no_fragment.Goals as goal

pub returns-in-Page-clause-ended : goal.returns-in-Page-clause-ended
returns-in-Page-clause-ended c = IfOk-weaker c.say_refused.result _ _
    (λ ended e found o h. refused_said found o c.in-Page.rule c.in-Page.at ended (subst (IsRefusedAs o) c.in-Page.is h) e) c.say_refused.ensures.ended
