use Rattle.hm_words.specs.Answers.{origin_of}
use Rattle.hm_input.proofs.Origins.{no_memory}
use Rattle.hm_input.proofs.input.load_rewritten.Goals as goal

pub returns-in-Ok-rewrite-clause-ok : goal.returns-in-Ok-rewrite-clause-ok
returns-in-Ok-rewrite-clause-ok g c = record { walk = c.in-Ok.read; read = c.in-Ok.ensures.ok; is = c.in-Ok-rewrite.ensures.ok }

pub returns-in-Err-rewrite-clause-err : goal.returns-in-Err-rewrite-clause-err
returns-in-Err-rewrite-clause-err g c = no_memory (g.S.Store.files c.args.store.now) (origin_of c.args.origin.now) c.args.table.now.entries
