use Rattle.std.proofs.Common.{◌∙◌, refl, subst, sym}
use Rattle.hm_minify.specs.Runs.{PutsBytes}
use Rattle.hm_minify.specs.declared.status.Status.TheVariants.{Done}
use Rattle.hm_minify.proofs.Steps.{course_noticed}
use Rattle.hm_minify.proofs.top.perform.Goals as goal

pub returns-in-Some-clause-course : goal.returns-in-Some-clause-course
returns-in-Some-clause-course g c = course_noticed c.args.words.now c.in-Some.notice c.put_line.result _ _ (sym c.notice_in.ensures.notice ∙ c.in-Some.is) refl
    (subst (λ text. PutsBytes (g.O.Sink.faults c.args.out.now) (g.O.Sink.faults c.put_line.new.out) (g.O.Sink.contents c.args.out.now) (g.O.Sink.contents c.put_line.new.out) text Done c.put_line.result) c.notice_text.ensures c.put_line.ensures)
