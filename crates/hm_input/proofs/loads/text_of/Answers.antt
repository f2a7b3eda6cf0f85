use Rattle.std.proofs.Common.{rules, subst, sym}
use Rattle.hm_input.specs.Loads.{NoTextIn}
use Rattle.hm_input.proofs.Loaded.{no_text_in, text_in}
use Rattle.hm_input.proofs.loads.text_of.Goals as goal

pub returns-in-Ok-clause-ok : goal.returns-in-Ok-clause-ok
returns-in-Ok-clause-ok c = let read = text_in c.args.page.items c.in-Ok.text c.in-Ok.ensures.sound c.in-Ok.ensures.read in record { read = read; all = search rules }

pub returns-in-Err-clause-err : goal.returns-in-Err-clause-err
returns-in-Err-clause-err c = subst (NoTextIn c.args.page.items) (sym c.from.ensures) (no_text_in c.args.page.items _ (c.refusal.ensures c.args.page.items c.in-Err.ensures.refused))
