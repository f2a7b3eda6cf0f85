use Rattle.std.proofs.Common.{sym, subst, ap, ◌∙◌, arith}
use Rattle.hm_cert.specs.Certificate.{AreRows, row_lines}
use Rattle.hm_cert.proofs.Before.{end_inside, is_before}
use Rattle.hm_cert.proofs.kept.WrittenRows.any_row_before.Goals as goal

pub line_before-at-requires : goal.line_before-at-requires
line_before-at-requires c = end_inside c.self.inside.lines.now c.args.self.now c.args.place.now (ap row_lines (sym c.self.view_is) ∙ c.self.invariant.lines) c.requires.place c.requires.some

pub returns-clause-row : goal.returns-clause-row
returns-clause-row c =
    (is_before c.self.inside.lines.now c.args.self.now c.args.place.now _ _ (ap row_lines (sym c.self.view_is) ∙ c.self.invariant.lines) (subst AreRows c.self.view_is c.self.invariant.written)
    c.requires.place c.requires.some c.line_before-at.ensures.start c.line_before-at.ensures.line).row _ _ c.in_ok-read_row.ensures

pub returns-clause-place : goal.returns-clause-place
returns-clause-place c = (
  omega (arith, c.requires.place.0),
  (is_before c.self.inside.lines.now c.args.self.now c.args.place.now _ _ (ap row_lines (sym c.self.view_is) ∙ c.self.invariant.lines) (subst AreRows c.self.view_is c.self.invariant.written)
      c.requires.place c.requires.some c.line_before-at.ensures.start c.line_before-at.ensures.line).front,
)
