use Rattle.hm_build.specs.Trees.{built}
use Rattle.hm_check.proofs.Checking.{if_ok, if_err, out_refused, read_outcome, read_refused}
use Rattle.hm_check.proofs.trees.read_out.Goals as goal

pub returns-in-Ok-clause-built : goal.returns-in-Ok-clause-built
returns-in-Ok-clause-built c =
    if_ok c.parse.result (λ tree e. read_outcome c.args.table.now.entries c.args.out.now c.in-Ok.text (built tree) c.in-Ok.ensures.sound c.in-Ok.ensures.read e) c.parse.ensures.built

pub returns-in-Ok-clause-refused : goal.returns-in-Ok-clause-refused
returns-in-Ok-clause-refused c =
    if_err c.parse.result (λ refused e. read_refused c.args.table.now.entries c.args.out.now c.in-Ok.text refused c.in-Ok.ensures.sound c.in-Ok.ensures.read e) c.parse.ensures.refused

pub returns-in-Err-clause-refused : goal.returns-in-Err-clause-refused
returns-in-Err-clause-refused c = out_refused c.args.table.now.entries c.args.out.now _ (c.refusal.ensures c.args.out.now c.in-Err.ensures.refused)
