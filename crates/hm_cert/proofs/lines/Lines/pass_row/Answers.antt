use Rattle.std.proofs.Common.{◌+◌}
use Rattle.std.proofs.lemmas.List.{take_rest}
use Rattle.hm_cert.proofs.ShortLines.{line_passed}
use Rattle.hm_cert.proofs.lines.Lines.pass_row.Goals as goal

pub returns-in-Some-clause-row : goal.returns-in-Some-clause-row
returns-in-Some-clause-row c = (
  c.in-Some.ensures.row,
  rw (take_rest c.args.self.now.rest.now (c.in-Some.end + 1)) (line_passed c.args.self.now.number c.args.self.now.rest.now c.in-Some.end c.in-Some.ensures),
)
