use Rattle.std.proofs.Common.{sym, ap, ◌∙◌, arith}
use Rattle.hm_cert.specs.Reading.{pieces, after_rules}
use Rattle.hm_cert.proofs.LineRows.{by_second}
use Rattle.hm_cert.proofs.lines.read_head.Goals as goal

pub returns-clause-ok : goal.returns-clause-ok
returns-clause-ok c = (
  omega arith,
  by_second c.args.bytes.now c.in-Some.first.now c.in-Some.rest.now c.in-Some-cut.second.now c.in-Some-cut.rest.now c.in-Some-read_format.format c.in-Some.ensures.pieces (sym c.in-Some-read_format.ensures) c.in-Some-cut.ensures.pieces
      ∙ ap (after_rules c.in-Some-read_format.format (pieces 10 c.in-Some-cut.rest.now)) (sym c.in-Some-read_rules.ensures),
)
