use Rattle.std.proofs.Common.{◌≡◌, ◌∙◌, ap, refl, Err}
use Rattle.hm_minify.specs.declared.ended.Stop.TheVariants.{Store}
use Rattle.hm_words.specs.declared.words.WordsFault.TheVariants.{Usage}
use Rattle.hm_minify.proofs.Steps.{course_unasked, course_finished, course_stopped}
use Rattle.hm_minify.proofs.top.perform_asked.Goals as goal

pub returns-in-Err-Usage-clause-course : goal.returns-in-Err-Usage-clause-course
returns-in-Err-Usage-clause-course g c =
    let unasked : c.read.result ≡ Err Usage = c.in-Err-Usage.is ∙ ap Err c.in-Err-Usage.field-0-is in
    course_unasked c.args.words.now c.put_line.result _ _ (c.read.ensures.usage unasked) c.requires.silent refl c.put_line.ensures

pub returns-in-Ok-work-clause-course : goal.returns-in-Ok-work-clause-course
returns-in-Ok-work-clause-course g c = course_finished c.args.words.now c.in-Ok.asked c.in-Ok-work.ended c.finish.result _ _ (g.S.Store.files c.work.new.store) (g.S.Store.faults c.work.new.store)
    c.in-Ok.ensures.ok c.in-Ok-work.ensures.ended c.in-Ok-work.ensures.answers c.in-Ok-work.ensures.same c.in-Ok-work.ensures.later c.finish.ensures

pub returns-in-Err-Store-clause-course : goal.returns-in-Err-Store-clause-course
returns-in-Err-Store-clause-course g c =
    let stopped : c.work.result ≡ Err Store = c.in-Err-Store.is ∙ ap Err c.in-Err-Store.field-0-is in
    course_stopped c.args.words.now c.in-Ok.asked c.put_line-in-Err-Store.result _ _ c.in-Ok.ensures.ok c.in-Err-Store.ensures.same (c.work.ensures.store stopped) c.put_line-in-Err-Store.ensures
