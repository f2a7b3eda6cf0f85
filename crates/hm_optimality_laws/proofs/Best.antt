-- Ways and spellings of settled trees, and what prices and the first way show.
use Rattle.std.proofs.Common.{◌≡◌, Bool, true, false, not, List, [], length, Some, refl, sym, ap, ◌∙◌, arith}
use Rattle.hm_base.specs.declared.plain.SpellRules.{SpellRules}
use Rattle.hm_graph_laws.proofs.PlainTests.{plain_test}
use Rattle.hm_graph_laws.proofs.ExchangedTrees.{spellings_spare_plain}
use Rattle.hm_graph_laws.proofs.LeastPrices.{first_bounds, first_least, least_feasible, least_number, least_reached}
use Rattle.hm_graph_laws.specs.Layers.{first_layer}
use Rattle.hm_graph_laws.specs.Prices.{least_prices}
use Rattle.hm_graph_laws.specs.UnitEdges.{edges_of}
use Rattle.hm_graph_laws.specs.Ways.{first_way}
use Rattle.hm_refs.specs.Names.{Entry}
use Rattle.hm_refs.specs.Plain.{is_plain}
use Rattle.hm_refs.specs.Tables.{IsTable}
use Rattle.hm_spelling_spec.specs.Spellings.{everywhere, other}
use Rattle.hm_spelling_spec.specs.Tags.{Spelling}
use Rattle.hm_graph_laws.specs.States.{first_state}
use Rattle.hm_graph_laws.specs.Units.{units_of}
use Rattle.hm_optimality_laws.specs.SpellingLaws.{AlwaysStands, FeasiblePricesShow, FirstWaysAreBest, GraphWaysSpell, SparesOnlyPlain, SpellingsHaveGraphWays, SpellingsHaveWays, TreesHaveGraphWays, TreesHaveSpellings, WaysSpellTrees}
use Rattle.hm_graph_laws.specs.ExchangeLaws.{sparing_plain}
use Rattle.hm_optimality_laws.proofs.Direct.{trees_have_ways}
use Rattle.hm_optimality_laws.proofs.Found.{spelling_way}
use Rattle.hm_optimality_laws.proofs.Order.{settled_in_order}
use Rattle.hm_optimality_laws.proofs.Spelled.{way_spells}
use Rattle.hm_optimality_laws.proofs.Wider.{wider}

-- the plain characters can stand as themselves
pub spares_plain : (t : List Entry) → IsTable t → (r : SpellRules) → SparesOnlyPlain (sparing_plain t r)
spares_plain t k r c h = by_plain (is_plain t c) refl h
  where
    by_plain : (b : Bool) → is_plain t c ≡ b → not b ≡ false → AlwaysStands c
    by_plain true e n = let p = plain_test t k in record { stands = λ ascii spot. p.stands ascii spot c e; no_amp = p.no_amp c e; no_lt = p.no_lt c e }
    by_plain false e n = absurd (cc)

pub ways_spell_trees : WaysSpellTrees
ways_spell_trees g k w s b way = way_spells g k w (settled_in_order w s) b way

pub spellings_have_ways : SpellingsHaveWays
spellings_have_ways g k w s b spells = spelling_way g k w (settled_in_order w s) b spells

pub trees_have_spellings : TreesHaveSpellings
trees_have_spellings t k r w s =
    let g : Spelling = record { table = t; rules = r; refers = everywhere } in
    let (b, way) = trees_have_ways g (λ c h. absurd (cc)) w in
    (b, ways_spell_trees g k w s b way)

-- ---- At the edges of a tree's own graph

pub graph_ways_spell : GraphWaysSpell
graph_ways_spell t k r w s b way = wider (sparing_plain t r) w other [] b (ways_spell_trees (sparing_plain t r) k w s b way)

pub spellings_have_graph_ways : SpellingsHaveGraphWays
spellings_have_graph_ways t k r w s b spells =
    let p = spellings_spare_plain t k r w b spells in
    let f = spellings_have_ways (sparing_plain t r) k w s p.bytes p.spells in
    record { bytes = f.bytes; way = f.way; short = omega (arith, f.short, p.short) }

pub trees_have_graph_ways : TreesHaveGraphWays
trees_have_graph_ways t k r w = trees_have_ways (sparing_plain t r) (spares_plain t k r) w

-- ---- What prices show

pub feasible_prices_show : FeasiblePricesShow
feasible_prices_show t k r w s prices n feasible price b spells =
    let f = spellings_have_graph_ways t k r w s b spells in
    let bound = first_bounds (edges_of (sparing_plain t r)) (units_of r w) prices n f.bytes feasible price f.way in
    omega (arith, bound, f.short)

pub first_ways_are_best : FirstWaysAreBest
first_ways_are_best t k r w s =
    let es = edges_of (sparing_plain t r) in
    let units = units_of r w in
    let (b, way) = trees_have_graph_ways t k r w in
    let (n, is, le) = least_number es units first_state b way in
    let (first, long) = least_reached es units first_state n is in
    let price = first_least es units ∙ is ∙ ap Some (sym long) in
    record {
      spells = graph_ways_spell t k r w s (first_way es units first_state) first;
      price = price;
      shortest = feasible_prices_show t k r w s (least_prices es units first_layer) (length (first_way es units first_state)) (least_feasible es units first_layer) price;
    }
