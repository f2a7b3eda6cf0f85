use Rattle.std.proofs.Common.{sym, subst, ap, ◌∙◌, arith}
use Rattle.hm_cert.specs.Certificate.{AreRows, row_lines}
use Rattle.hm_cert.proofs.Before.{end_inside, short_before}
use Rattle.hm_cert.proofs.kept.WrittenRows.row_before.Goals as goal

pub short_row_before-requires : goal.short_row_before-requires
short_row_before-requires c = end_inside c.self.inside.lines.now c.args.self.now c.args.place.now (ap row_lines (sym c.self.view_is) ∙ c.self.invariant.lines) c.requires.place c.requires.some

pub returns-in-Some-clause-row : goal.returns-in-Some-clause-row
returns-in-Some-clause-row c =
    (short_before c.self.inside.lines.now c.args.self.now c.args.place.now c.in-Some.at _ _ (ap row_lines (sym c.self.view_is) ∙ c.self.invariant.lines) (subst AreRows c.self.view_is c.self.invariant.written)
    c.requires.place c.requires.some c.in_ok-at.ensures c.in-Some.is).0

pub returns-in-Some-clause-place : goal.returns-in-Some-clause-place
returns-in-Some-clause-place c = (
  omega (arith, c.requires.place.0),
  (short_before c.self.inside.lines.now c.args.self.now c.args.place.now c.in-Some.at _ _ (ap row_lines (sym c.self.view_is) ∙ c.self.invariant.lines) (subst AreRows c.self.view_is c.self.invariant.written)
      c.requires.place c.requires.some c.in_ok-at.ensures c.in-Some.is).1,
)
