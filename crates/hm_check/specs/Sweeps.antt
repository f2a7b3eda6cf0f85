-- What is known of the rows of a certificate from a layer of a graph on.
use Rattle.std.specs.Prelude.{◌≡◌, ◌==◌, ◌<◌, ◌+◌, ◌*◌, ◌^◌, ℕ, true, false, List, ◌∷◌, length, map, drop, Option, Some, None, option_map, if◌then◌else◌}
use Rattle.std.specs.Option.{option_or}
use Rattle.hm_cert.specs.Certificate.{AreRows}
use Rattle.hm_cert.specs.Layout.{told}
use Rattle.hm_cert.specs.Places.{IsRowPlace}
use Rattle.hm_cert.specs.Rows.{AreBelow}
use Rattle.hm_graph_laws.specs.Prices.{Row}
use Rattle.hm_graph.specs.Graphs.{GraphView}
use Rattle.hm_graph.specs.Prices.{row_over, full_rows}
use Rattle.hm_graph.specs.Steps.{Step}
use Rattle.hm_graph.specs.Still.{AreStill}
use Rattle.hm_check.specs.Rows.{OtherWidth, HighPrice, high_in, high_at_end}
use Rattle.hm_check.specs.Steps.{count_over, other_width_over, high_price_over}
use Rattle.hm_check.specs.declared.sweep.SweepFound.{SweepFound}
use Rattle.hm_check.specs.declared.sweep.Sweep.{Sweep}
use Rattle.hm_check.specs.declared.verdicts.Why.{Why}
use Rattle.hm_check.specs.declared.verdicts.Why.TheVariants.{WrongWidth, TooHigh}

abbrev pub width_why : OtherWidth → Why
width_why w = WrongWidth w.layer w.got w.want

abbrev pub high_why : HighPrice → Why
high_why h = TooHigh h.layer h.state h.price h.bound

-- ---- Rows

-- as many rows as layers are written, and each price can be written
pub record AreInPlace (g : GraphView) (rows : List Row) : Type 0 where
  pub prices : AreRows rows
  pub count : length rows ≡ count_over g.source.format 0 g.steps

-- no state changes its place over a step, and each hop has this length
abbrev pub IsStillOver : Step → ℕ → Type 0
IsStillOver step len = AreStill len step × (len < 2 ^ 33)

-- what is found with the row of layer k added, by the next layer's prices
abbrev pub judged : SweepFound → ℕ → Row → Row → Step → SweepFound
judged found k row next_row step =
    if length row == length step then (if found.right then record { right = true; why = option_or (option_map high_why (high_in k 0 row (row_over next_row step))) found.why } else found)
    else record { right = false; why = Some (WrongWidth k (length row) (length step)) }

-- what is found of the row of the last layer, layer k
abbrev pub judged_at_end : ℕ → Row → ℕ → SweepFound
judged_at_end k row last =
    if length row == last then record { right = true; why = option_map high_why (high_at_end k 0 row) }
    else record { right = false; why = Some (WrongWidth k (length row) last) }

-- The rows after the first ones stand for the prices from layer k on, of which those of layer k are at hand. The first
-- of these prices above its bound is found.
pub record ArePriced (g : GraphView) (rows : List Row) (k : ℕ) (s : Sweep) : Type 0 where
  pub more : List Row
  pub full : full_rows g.source.format k g.last (drop k g.steps) (drop s.at.row rows) ≡ Some (map told s.next_row.items ∷ more)
  pub found : s.found.why ≡ option_map high_why (high_price_over k (drop k g.steps) (map told s.next_row.items ∷ more))
  pub turns : ℕ
  pub turned : turns + k ≡ length g.steps
  pub below : AreBelow (2 ^ 63 + turns * 2 ^ 33) (map told s.next_row.items)

-- what is known of the rows after the first ones, by the first of them that has another width
abbrev pub AreKnown : GraphView → List Row → ℕ → Sweep → Option OtherWidth → Type 0
AreKnown g rows k s None = (s.found.right ≡ true) × ArePriced g rows k s
AreKnown g rows k s (Some w) = (s.found.right ≡ false) × (s.found.why ≡ Some (width_why w))

-- The rows after a place are those of the layers from layer k on.
pub record IsSwept (g : GraphView) (rows : List Row) (k : ℕ) (s : Sweep) : Type 0 where
  pub place : IsRowPlace rows s.at
  pub written : s.at.row + count_over g.source.format k (drop k g.steps) ≡ length rows
  pub known : AreKnown g rows k s (other_width_over g.source.format k g.last (drop k g.steps) (drop s.at.row rows))
