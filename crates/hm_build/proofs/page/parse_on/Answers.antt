use Rattle.std.proofs.Common.{ap, sym, subst, ◌∙◌}
use Rattle.std.proofs.lemmas.Result.{IfErr-weaker, IfOk-weaker}
use Rattle.hm_lexer.specs.Reading.{Reading}
use Rattle.hm_build.specs.Parsing.{IsRefusedAs, left_tree}
use Rattle.hm_build.proofs.Whole.{refused_same}
use Rattle.hm_build.proofs.page.parse_on.Goals as goal

pub returns-in-Ok-clause-built : goal.returns-in-Ok-clause-built
returns-in-Ok-clause-built c =
    IfOk-weaker c.finish.result _ _ (λ parsed e. ap (λ r. left_tree r c.args.builder) (sym c.new-lexer.ensures) ∙ c.in-Ok.ensures.tree ∙ e) c.finish.ensures.built

pub returns-in-Ok-clause-refused : goal.returns-in-Ok-clause-refused
returns-in-Ok-clause-refused c =
    IfErr-weaker c.finish.result _ _ (λ refused e. refused_same _ _ refused (ap (λ r. left_tree r c.args.builder) (sym c.new-lexer.ensures) ∙ c.in-Ok.ensures.tree) e) c.finish.ensures.refused

pub returns-in-Err-clause-refused : goal.returns-in-Err-clause-refused
returns-in-Err-clause-refused c = subst (λ (r : Reading). IsRefusedAs (left_tree r c.args.builder) c.in-Err.refused) c.new-lexer.ensures c.in-Err.ensures.err
