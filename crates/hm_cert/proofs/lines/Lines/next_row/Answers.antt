use Rattle.std.proofs.Common.{map}
use Rattle.hm_cert.specs.Layout.{told}
use Rattle.hm_cert.proofs.LineRows.{bad_row, good_row}
use Rattle.hm_cert.proofs.Read.{row_prices}
use Rattle.hm_cert.proofs.lines.Lines.next_row.Goals as goal

pub returns-then-not-branch-clause-row : goal.returns-then-not-branch-clause-row
returns-then-not-branch-clause-row c =
    bad_row c.args.self.now.number c.args.self.now.rest.now c.in-Some.line.now c.in-Some.rest.now c.in_ok-read_row.field-0 (map told c.read_row.new.into.items) c.in-Some.ensures.pieces c.in_ok-read_row.ensures c.if-not-branch.true

pub returns-clause-row : goal.returns-clause-row
returns-clause-row c =
    good_row c.args.self.now.number c.args.self.now.rest.now c.in-Some.line.now c.in-Some.rest.now c.in_ok-read_row.field-0 (map told c.read_row.new.into.items) c.in-Some.ensures.pieces c.in_ok-read_row.ensures c.if-not-branch.false

pub returns-clause-prices : goal.returns-clause-prices
returns-clause-prices c =
    λ _. row_prices c.in-Some.line.now c.read_row.new.into.items c.in_ok-read_row.field-0 c.in_ok-read_row.ensures c.if-not-branch.false
