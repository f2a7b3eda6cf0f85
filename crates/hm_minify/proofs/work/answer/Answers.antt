use Rattle.std.proofs.Common.{◌∙◌, ap}
use Rattle.std.proofs.lemmas.Result.{IfOk-weaker}
use Rattle.hm_words.specs.Answers.{origin_of, work_of}
use Rattle.hm_words.specs.Words as words
use Rattle.hm_minify.specs.Endings.{page_name, settled_ending}
use Rattle.hm_minify.proofs.Answered.{told_ending}
use Rattle.hm_minify.proofs.work.answer.Goals as goal

pub returns-in-Minify-clause-ended : goal.returns-in-Minify-clause-ended
returns-in-Minify-clause-ended g c = IfOk-weaker c.minify.result _ _
    (λ ended e. told_ending (g.S.Store.files c.args.store.now) (page_name (origin_of c.args.asked.now.origin)) (work_of c.args.asked.now.work) (words.minifies c.in-Minify.out.now c.in-Minify.cert.now) c.args.asked.now.writing c.args.input.bytes c.args.input.table.entries c.args.input.tree ended (ap work_of c.in-Minify.is) e)
    c.minify.ensures.ended

pub returns-in-Show-clause-ended : goal.returns-in-Show-clause-ended
returns-in-Show-clause-ended g c = IfOk-weaker c.show.result _ _
    (λ ended e. told_ending (g.S.Store.files c.args.store.now) (page_name (origin_of c.args.asked.now.origin)) (work_of c.args.asked.now.work) words.shows c.args.asked.now.writing c.args.input.bytes c.args.input.table.entries c.args.input.tree ended (ap work_of c.in-Show.is) e)
    c.show.ensures.ended

pub returns-in-TellJson-clause-ended : goal.returns-in-TellJson-clause-ended
returns-in-TellJson-clause-ended g c = IfOk-weaker c.tell_json.result _ _
    (λ ended e. told_ending (g.S.Store.files c.args.store.now) (page_name (origin_of c.args.asked.now.origin)) (work_of c.args.asked.now.work) words.tells_json c.args.asked.now.writing c.args.input.bytes c.args.input.table.entries c.args.input.tree ended (ap work_of c.in-TellJson.is) e)
    c.tell_json.ensures.ended

pub returns-clause-ended : goal.returns-clause-ended
returns-clause-ended g c = IfOk-weaker c.measure.result _ _
    (λ ended e. told_ending (g.S.Store.files c.args.store.now) (page_name (origin_of c.args.asked.now.origin)) (work_of c.args.asked.now.work) words.measures c.args.asked.now.writing c.args.input.bytes c.args.input.table.entries c.args.input.tree ended (ap work_of c.in-Measure.is) e)
    c.measure.ensures.ended

pub returns-in-Explain-clause-ended : goal.returns-in-Explain-clause-ended
returns-in-Explain-clause-ended g c = IfOk-weaker c.settle.result _ _
    (λ ended e. told_ending (g.S.Store.files c.args.store.now) (page_name (origin_of c.args.asked.now.origin)) (work_of c.args.asked.now.work) words.explains c.args.asked.now.writing c.args.input.bytes c.args.input.table.entries c.args.input.tree ended (ap work_of c.in-Explain.is)
    (e ∙ ap (λ name. settled_ending name c.args.input.bytes c.args.asked.now.writing c.args.input.table.entries c.args.input.tree) c.page_name.ensures))
    c.settle.ensures.ended
