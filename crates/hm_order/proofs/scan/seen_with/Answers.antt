use Rattle.std.proofs.Common.{sym, ◌∙◌}
use Rattle.hm_order.proofs.Scans.{clear, nothing_stays, or_false, plain_is_easy}
use Rattle.hm_order.proofs.scan.seen_with.Goals as goal

pub returns-in-Nothing-clause-easy : goal.returns-in-Nothing-clause-easy
returns-in-Nothing-clause-easy c = plain_is_easy c.args.table.now.entries c.args.ascii c.args.low c.args.c (sym c.is_plain.ensures ∙ c.if-is_plain.true)

pub returns-in-Nothing-clause-barred : goal.returns-in-Nothing-clause-barred
returns-in-Nothing-clause-barred c = rw ((clear c.args.table.now.entries c.args.c (sym c.is_plain.ensures ∙ c.if-is_plain.true)).stands) (sym (or_false c.args.seen.barred))

pub returns-in-Nothing-clause-literal : goal.returns-in-Nothing-clause-literal
returns-in-Nothing-clause-literal c =
    rw (c.in-Nothing.is) (nothing_stays c.args.table.now.entries c.args.c (clear c.args.table.now.entries c.args.c (sym c.is_plain.ensures ∙ c.if-is_plain.true)).no_ampersand)
