-- What is found from the last layer of a graph on.
use Rattle.std.specs.Prelude.{◌≡◌, ℕ, zero, suc, ◌*◌, List, [], ◌++◌, drop, map, reverse}
use Rattle.hm_cert.specs.Certificate.{certificate_text, row_line, row_lines}
use Rattle.hm_cert.specs.Layout.{told}
use Rattle.hm_graph_laws.specs.Prices.{Row, first_price}
use Rattle.hm_graph_laws.specs.Ways.{over}
use Rattle.hm_graph.specs.Graphs.{GraphView}
use Rattle.hm_graph.specs.Prices.{first_row, rows_of, written_rows}
use Rattle.hm_graph.specs.Ways.{choices_of}
use Rattle.hm_shortest.specs.declared.plans.Back.{Back}
use Rattle.hm_shortest.specs.declared.plans.Plan.{Plan}

-- the certificate of the least prices, the choices of the first way, and the first price
pub record IsPlan (g : GraphView) (plan : Plan) : Type 0 where
  pub certificate : plan.certificate.items ≡ certificate_text g.source.format g.source.rules (written_rows g.source.format 0 g.steps (rows_of g.last g.steps))
  pub choices : plan.choices.items ≡ choices_of g.last g.steps
  pub first : told plan.first ≡ first_price (rows_of g.last g.steps)

-- the lines, from their end, the choices and the prices of layer k
pub record IsBack (g : GraphView) (k : ℕ) (text choices : List ℕ) (row : Row) : Type 0 where
  pub lines : text ≡ reverse (row_lines (written_rows g.source.format k (drop k g.steps) (rows_of g.last (drop k g.steps))))
  pub chosen : choices ≡ choices_of g.last (drop k g.steps)
  pub prices : row ≡ first_row (rows_of g.last (drop k g.steps))

-- what was found from layer k on
abbrev pub IsFound : GraphView → ℕ → Back → Type 0
IsFound g k back = IsBack g k back.text back.choices.items (map told back.row.items)

-- the lines of `count` rows, from their end: each price of the first is `len` more than in `row`, and each next row
-- adds `len` again
abbrev pub raised_lines : ℕ → ℕ → Row → List ℕ
raised_lines zero len row = []
raised_lines (suc count) len row = raised_lines count len row ++ reverse (row_line (map (over (suc count * len)) row))
