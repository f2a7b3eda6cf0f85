-- What a check's answer is worth.
use Rattle.std.specs.Prelude.{◌≡◌, ◌≢◌, ◌≤◌, ℕ, true, List, length, Some, None}
use Rattle.hm_base.specs.Walks.{Event}
use Rattle.hm_base.specs.declared.limits.TheConstants.{OUTPUT_LIMIT}
use Rattle.hm_base.specs.declared.plain.SpellRules.{SpellRules}
use Rattle.hm_base.specs.declared.rules.Rule.{Rule}
use Rattle.hm_cert.specs.declared.certificate.Certificate.{Certificate}
use Rattle.hm_base.specs.declared.plain.Format.{Format}
use Rattle.hm_build.specs.Trees.{built, page_tree}
use Rattle.hm_graph_laws.specs.ExchangeLaws.{sparing_plain}
use Rattle.hm_elements.specs.Settled.{Settled}
use Rattle.hm_graph_laws.specs.Layers.{LayerTest, first_layer}
use Rattle.hm_graph_laws.specs.Prices.{Row, Feasible, first_price, full, least_prices, written_rows}
use Rattle.hm_graph_laws.specs.UnitEdges.{edges_of}
use Rattle.hm_graph_laws.specs.Ways.{Edges, first_way}
use Rattle.hm_graph.specs.Graphs.{tree_edges}
use Rattle.hm_refs.specs.Names.{Entry}
use Rattle.hm_refs.specs.Tables.{IsTable}
use Rattle.hm_spelling_spec.specs.Spellings.{Shortest, Spells}
use Rattle.hm_optimality_laws.specs.Formats.{follows_by}
use Rattle.hm_graph_laws.specs.States.{first_state}
use Rattle.hm_graph_laws.specs.Units.{Unit, units_of}
use Rattle.hm_check.specs.Rows.{high_price}
use Rattle.hm_check.specs.Verdicts.{same_rules, verdict}
use Rattle.hm_check.specs.declared.verdicts.Verdict.TheVariants.{Yes, No}
use Rattle.hm_check.specs.declared.verdicts.Why.TheVariants.{OutRefused, TreesDiffer}

-- the certificate of the least prices in a format
abbrev pub least_certificate : List Entry → SpellRules → Format → List Event → Certificate
least_certificate t r format w = record {
  format = format;
  rules = r;
  prices = written_rows (tree_edges t r format) (follows_by format (tree_edges t r format)) 0 (units_of r w) first_layer (least_prices (tree_edges t r format) (units_of r w) first_layer);
}

-- Both rules of prices are one: of the prices that written rows stand for, none is above its bound exactly where they are
-- feasible.
abbrev pub PriceRulesAgree : Type 0
PriceRulesAgree = (edges : Edges) (follows : LayerTest) (units : List Unit) (rows prices : List Row) → full edges follows units rows ≡ Some prices
    → (high_price edges 0 units first_layer prices ≡ None → Feasible edges units prices) × (Feasible edges units prices → high_price edges 0 units first_layer prices ≡ None)

-- What a yes stands for: the certificate is by these rules, the text is within its limit and parses to the tree, and the prices
-- that the rows stand for are feasible, the first of them being no less than the length of the text.
pub record IsEarned (t : List Entry) (r : SpellRules) (w : List Event) (out : List ℕ) (c : Certificate) : Type 0 where
  pub rules : same_rules c.rules r ≡ true
  pub short : length out ≤ OUTPUT_LIMIT
  pub parses : page_tree t out ≡ built w
  pub prices : List Row
  pub full : full (tree_edges t r c.format) (follows_by c.format (tree_edges t r c.format)) (units_of r w) c.prices ≡ Some prices
  pub feasible : Feasible (tree_edges t r c.format) (units_of r w) prices
  pub first : ℕ
  pub price : first_price prices ≡ Some first
  pub bound : length out ≤ first

-- The check says yes, with the length of the text, exactly where that is so.
abbrev pub YesIsEarned : Type 0
YesIsEarned = (t : List Entry) (r : SpellRules) (w : List Event) (out : List ℕ) (c : Certificate)
    → ((n : ℕ) → verdict t r w out c ≡ Yes n → IsEarned t r w out c × (n ≡ length out)) × (IsEarned t r w out c → verdict t r w out c ≡ Yes (length out))

-- The text parses to the tree, and no spelling of the tree is shorter.
pub record IsShown (t : List Entry) (r : SpellRules) (w : List Event) (out : List ℕ) (n : ℕ) : Type 0 where
  pub len : n ≡ length out
  pub parses : page_tree t out ≡ built w
  pub shortest : Shortest t r w (length out)

-- A yes on any text and any prices, from any source, shows that.
abbrev pub YesShows : Type 0
YesShows = (t : List Entry) → IsTable t → (r : SpellRules) (w : List Event) → Settled w → (out : List ℕ) (c : Certificate) (n : ℕ) → verdict t r w out c ≡ Yes n → IsShown t r w out n

-- A spelling of the tree within the limit isn't refused, and its tree doesn't differ.
abbrev pub SpellingsAreAccepted : Type 0
SpellingsAreAccepted = (t : List Entry) → IsTable t → (r : SpellRules) (w : List Event) → Settled w → (out : List ℕ) (c : Certificate) → Spells t r w out → length out ≤ OUTPUT_LIMIT
    → ((rule : Rule) (at : ℕ) → verdict t r w out c ≢ No (OutRefused rule at)) × ((event : ℕ) → verdict t r w out c ≢ No (TreesDiffer event))

-- The text of the first way, with the least prices in any format, is accepted within the limit.
abbrev pub MinifiedIsAccepted : Type 0
MinifiedIsAccepted = (t : List Entry) → IsTable t → (r : SpellRules) (format : Format) (w : List Event) → Settled w → length (first_way (edges_of (sparing_plain t r)) (units_of r w) first_state) ≤ OUTPUT_LIMIT
    → verdict t r w (first_way (edges_of (sparing_plain t r)) (units_of r w) first_state) (least_certificate t r format w) ≡ Yes (length (first_way (edges_of (sparing_plain t r)) (units_of r w) first_state))
