use Rattle.std.proofs.lemmas.Result.{IfErr-weaker, IfOk-weaker}
use Rattle.hm_input.proofs.Explaining.{built_text, faulty_bytes, refused_text}
use Rattle.hm_input.proofs.explained.parse_page.Goals as goal

pub returns-in-Ok-clause-built : goal.returns-in-Ok-clause-built
returns-in-Ok-clause-built c = IfOk-weaker c.parse.result _ _ (λ w e. built_text c.args.table.now.entries c.args.page.items c.in-Ok.text w c.in-Ok.ensures.sound c.in-Ok.ensures.read e) c.parse.ensures.built

pub returns-in-Ok-clause-refused : goal.returns-in-Ok-clause-refused
returns-in-Ok-clause-refused c = IfErr-weaker c.parse.result _ _ (λ r e. refused_text c.args.table.now.entries c.args.page.items c.in-Ok.text r c.in-Ok.ensures.sound c.in-Ok.ensures.read e) c.parse.ensures.refused

pub returns-in-Err-clause-refused : goal.returns-in-Err-clause-refused
returns-in-Err-clause-refused c = faulty_bytes c.args.table.now.entries c.args.page.items _ (c.refusal.ensures c.args.page.items c.in-Err.ensures.refused)
