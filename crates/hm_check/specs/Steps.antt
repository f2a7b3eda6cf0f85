-- What is found of the rows of a certificate, over the steps of the graph.
use Rattle.std.specs.Prelude.{ℕ, suc, ◌==◌, List, [], ◌∷◌, length, Option, Some, None, if◌then◌else◌}
use Rattle.hm_base.specs.declared.plain.Format.{Format}
use Rattle.hm_graph_laws.specs.Prices.{Row}
use Rattle.hm_graph.specs.Prices.{row_over, is_left_out, full_rows}
use Rattle.hm_graph.specs.Steps.{Step}
use Rattle.hm_check.specs.Rows.{OtherWidth, HighPrice, high_in, high_at_end, or_else}
use Rattle.hm_check.specs.Verdicts.{by_high}
use Rattle.hm_check.specs.declared.verdicts.Verdict.{Verdict}
use Rattle.hm_check.specs.declared.verdicts.Verdict.TheVariants.{No}
use Rattle.hm_check.specs.declared.verdicts.Why.TheVariants.{WrongLayers, WrongWidth, TooLong}

-- how many layers are written from layer k on
abbrev pub count_over : Format → ℕ → List Step → ℕ
count_over format k [] = 1
count_over format k (step ∷ steps) = if is_left_out format k step then count_over format (suc k) steps else suc (count_over format (suc k) steps)

-- the first written layer from layer k on whose row has another width
abbrev pub other_width_over : Format → ℕ → ℕ → List Step → List Row → Option OtherWidth
other_width_over format k last steps [] = None
other_width_over format k last [] (row ∷ rows) = if length row == last then None else Some (record { layer = k; got = length row; want = last })
other_width_over format k last (step ∷ steps) (row ∷ rows) =
    if is_left_out format k step then other_width_over format (suc k) last steps (row ∷ rows)
    else if length row == length step then other_width_over format (suc k) last steps rows
    else Some (record { layer = k; got = length row; want = length step })

-- the first price above its bound, from layer k on
abbrev pub high_price_over : ℕ → List Step → List Row → Option HighPrice
high_price_over k steps [] = None
high_price_over k [] (row ∷ rows) = high_at_end k 0 row
high_price_over k (step ∷ steps) (row ∷ []) = None
high_price_over k (step ∷ steps) (row ∷ next ∷ rows) = or_else (high_in k 0 row (row_over next step)) (high_price_over (suc k) steps (next ∷ rows))

abbrev pub by_full_over : ℕ → List Step → Option (List Row) → Verdict
by_full_over n steps None = No (TooLong n 0)
by_full_over n steps (Some prices) = by_high n prices (high_price_over 0 steps prices)

abbrev pub by_width_over : Format → ℕ → List Step → ℕ → List Row → Option OtherWidth → Verdict
by_width_over format last steps n rows (Some w) = No (WrongWidth w.layer w.got w.want)
by_width_over format last steps n rows None = by_full_over n steps (full_rows format 0 last steps rows)

-- what is found of the rows that a certificate writes, for a text of n bytes
abbrev pub by_rows_over : Format → ℕ → List Step → ℕ → List Row → Verdict
by_rows_over format last steps n rows =
    if length rows == count_over format 0 steps then by_width_over format last steps n rows (other_width_over format 0 last steps rows)
    else No (WrongLayers (length rows) (count_over format 0 steps))
