use Rattle.std.proofs.Common.{◌+◌, ◌∙◌, ap}
use Rattle.hm_location.specs.Lines.{column_of, columns}
use Rattle.hm_location.proofs.place.location_of.Goals as goal

pub returns-clause-column : goal.returns-clause-column
unfolding column_of
returns-clause-column c = ap (λ n. 1 + n) (c.count_columns.ensures.count ∙ ap columns c.line_start-start.ensures.front)
