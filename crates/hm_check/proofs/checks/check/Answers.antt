use Rattle.std.proofs.Common.{◌≡◌, true, sym, ◌∙◌, refl}
use Rattle.hm_check.specs.Verdicts.{same_rules}
use Rattle.hm_check.proofs.Checking.{if_ok, rules_other, tree_other, tree_right}
use Rattle.hm_check.proofs.checks.check.Goals as goal

pub returns-then-not-same_rules : goal.returns-then-not-same_rules
returns-then-not-same_rules c = rules_other c.args.table.now.entries c.args.rules c.args.wanted.now c.args.out.now c.args.certificate.now (sym c.same_rules.ensures ∙ c.if-not-same_rules.true)

pub returns-in-Ok-None : goal.returns-in-Ok-None
returns-in-Ok-None c =
    let same : same_rules c.args.certificate.now.rules c.args.rules ≡ true = sym c.same_rules.ensures ∙ c.if-not-same_rules.false in
    if_ok c.by_certificate.result (λ found e. tree_right c.args.table.now.entries c.args.rules c.args.wanted.now c.args.out.now c.args.certificate.now _ found same (sym c.in-Ok-None.field-0-is ∙ c.in-Ok-None.ensures) refl e) c.by_certificate.ensures

pub returns-in-Ok-Some : goal.returns-in-Ok-Some
returns-in-Ok-Some c =
    let same : same_rules c.args.certificate.now.rules c.args.rules ≡ true = sym c.same_rules.ensures ∙ c.if-not-same_rules.false in
    tree_other c.args.table.now.entries c.args.rules c.args.wanted.now c.args.out.now c.args.certificate.now c.in-Ok-Some.why same (sym c.in-Ok-Some.field-0-is ∙ c.in-Ok-Some.ensures)
