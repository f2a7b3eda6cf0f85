-- What a check finds: the first condition that fails, or that all hold.
use Rattle.std.specs.Prelude.{ℕ, Bool, ◌&&◌, ◌==◌, nat_lt, List, length, Option, Some, None, if◌then◌else◌}
use Rattle.hm_base.specs.Walks.{Event, same_flag}
use Rattle.hm_base.specs.declared.limits.TheConstants.{OUTPUT_LIMIT}
use Rattle.hm_base.specs.declared.plain.SpellRules.{SpellRules}
use Rattle.hm_base.specs.declared.rules.Rule.TheVariants as rules
use Rattle.hm_cert.specs.declared.certificate.Certificate.{Certificate}
use Rattle.hm_build.specs.Trees.{Outcome, built, refused_by, page_tree}
use Rattle.hm_graph_laws.specs.Layers.{LayerTest, first_layer, written}
use Rattle.hm_graph_laws.specs.Prices.{Row, first_price, full}
use Rattle.hm_graph_laws.specs.Ways.{Edges}
use Rattle.hm_graph.specs.Graphs.{tree_edges}
use Rattle.hm_refs.specs.Names.{Entry}
use Rattle.hm_optimality_laws.specs.Formats.{follows_by}
use Rattle.hm_graph_laws.specs.Units.{Unit, units_of}
use Rattle.hm_check.specs.Differences.{first_difference}
use Rattle.hm_check.specs.Rows.{OtherWidth, HighPrice, other_width, high_price}
use Rattle.hm_check.specs.declared.verdicts.Verdict.{Verdict}
use Rattle.hm_check.specs.declared.verdicts.Verdict.TheVariants.{Yes, No}
use Rattle.hm_check.specs.declared.verdicts.Why.TheVariants.{RulesDiffer, OutRefused, TreesDiffer, WrongLayers, WrongWidth, TooHigh, TooLong}

abbrev pub same_rules : SpellRules → SpellRules → Bool
same_rules a b = same_flag a.omit b.omit && (same_flag a.unquote b.unquote && (same_flag a.tight b.tight && (same_flag a.ascii b.ascii && same_flag a.frame b.frame)))

-- the tree of a text within the limit of an output
unfoldable pub out_outcome : List Entry → List ℕ → Outcome
out_outcome t out = if nat_lt OUTPUT_LIMIT (length out) then refused_by rules.TooLong OUTPUT_LIMIT else page_tree t out

-- ---- The rows, over any edges and any test of a layer

abbrev pub by_first : ℕ → Option ℕ → Verdict
by_first n None = No (TooLong n 0)
by_first n (Some first) = if nat_lt first n then No (TooLong n first) else Yes n

abbrev pub by_high : ℕ → List Row → Option HighPrice → Verdict
by_high n prices (Some h) = No (TooHigh h.layer h.state h.price h.bound)
by_high n prices None = by_first n (first_price prices)

-- the prices of all layers; where there are none, layers or widths differ, which is checked before
abbrev pub by_full : Edges → ℕ → List Unit → Option (List Row) → Verdict
by_full edges n units None = No (TooLong n 0)
by_full edges n units (Some prices) = by_high n prices (high_price edges 0 units first_layer prices)

abbrev pub by_width : Edges → LayerTest → ℕ → List Unit → List Row → Option OtherWidth → Verdict
by_width edges follows n units rows (Some w) = No (WrongWidth w.layer w.got w.want)
by_width edges follows n units rows None = by_full edges n units (full edges follows units rows)

-- what is found of the rows that a certificate writes, for a text of n bytes
abbrev pub by_rows : Edges → LayerTest → ℕ → List Unit → List Row → Verdict
by_rows edges follows n units rows =
    if length rows == length (written edges follows units) then by_width edges follows n units rows (other_width edges follows 0 units first_layer rows)
    else No (WrongLayers (length rows) (length (written edges follows units)))

-- ---- All conditions

abbrev pub by_difference : List Entry → SpellRules → List Event → ℕ → Certificate → Option ℕ → Verdict
by_difference t r w n c (Some i) = No (TreesDiffer i)
by_difference t r w n c None = by_rows (tree_edges t r c.format) (follows_by c.format (tree_edges t r c.format)) n (units_of r w) c.prices

abbrev pub by_outcome : List Entry → SpellRules → List Event → ℕ → Certificate → Outcome → Verdict
by_outcome t r w n c (refused_by rule at) = No (OutRefused rule at)
by_outcome t r w n c (built v) = by_difference t r w n c (first_difference v w)

-- What a check of a text and a certificate finds, for the tree that is wanted.
unfoldable pub verdict : List Entry → SpellRules → List Event → List ℕ → Certificate → Verdict
verdict t r w out c = if same_rules c.rules r then by_outcome t r w (length out) c (out_outcome t out) else No RulesDiffer
