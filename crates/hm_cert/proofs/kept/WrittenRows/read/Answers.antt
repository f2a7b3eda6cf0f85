use Rattle.std.proofs.Common.{Ok, sym, ap, ◌∙◌, subst}
use Rattle.hm_cert.specs.Places.{AreSoMany, rows_of}
use Rattle.hm_cert.specs.Reading.{rows_in}
use Rattle.hm_cert.proofs.Before.{lines_are, rows_are}
use Rattle.hm_cert.proofs.kept.WrittenRows.read.Goals as goal

pub invariant_of-result : goal.invariant_of-result
invariant_of-result c = lines_are c.args.lines.number c.text-text.result.now c.in_ok-count.count (subst (λ t. AreSoMany (rows_in c.args.lines.number t) c.in_ok-count.count) (sym c.text-text.ensures) c.in_ok-count.ensures)

pub returns : goal.returns
returns c =
    c.in_ok-count.ensures.are ∙ ap Ok (sym (ap rows_of c.text-text.ensures ∙ rows_are c.args.lines.number c.args.lines.rest.now c.in_ok-count.ensures.rows c.in_ok-count.ensures.are))
