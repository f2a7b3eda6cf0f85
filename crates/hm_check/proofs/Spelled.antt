-- A text that follows a tree's graph has the wanted tree, so that its rows decide.
use Rattle.std.proofs.Common.{◌≡◌, ◌∙◌, ◌≤◌, ℕ, Bool, true, false, cond, List, [], ◌∷◌, length, refl, sym, ap, subst}
use Rattle.hm_base.specs.Walks.{Event}
use Rattle.hm_base.specs.declared.limits.TheConstants.{OUTPUT_LIMIT}
use Rattle.hm_base.specs.declared.plain.SpellRules.{SpellRules}
use Rattle.hm_cert.specs.declared.certificate.Certificate.{Certificate}
use Rattle.hm_base.specs.declared.plain.Format.{Format}
use Rattle.hm_base.specs.declared.plain.Format.TheVariants.{Full, Compact, Sparse}
use Rattle.hm_edges.specs.Pieces.{piece_bytes}
use Rattle.hm_elements.specs.Settled.{Settled}
use Rattle.hm_graph_laws.specs.Layers.{first_layer}
use Rattle.hm_graph_laws.specs.UnitEdges.{edges_of}
use Rattle.hm_graph_laws.specs.Ways.{Edges, Way}
use Rattle.hm_graph.specs.Graphs.{GraphView, IsGraph, source_edges}
use Rattle.hm_optimality_laws.specs.Formats.{edges_by, kept_by}
use Rattle.hm_optimality_laws.specs.Dominated.{Dominance, dominance, is_dominated, kept_after}
use Rattle.hm_refs.specs.Names.{Entry}
use Rattle.hm_refs.specs.Tables.{IsIn, IsTable, TableView, first, later}
use Rattle.hm_spelling_spec.specs.Spellings.{Spells, other}
use Rattle.hm_graph.proofs.Ways.{ways_are_ways}
use Rattle.hm_graph.specs.Ways.{WayOver}
use Rattle.hm_graph_laws.specs.Edges.{Edge}
use Rattle.hm_graph_laws.specs.States.{State, first_state, same_state}
use Rattle.hm_graph_laws.specs.Units.{Unit, units_of}
use Rattle.hm_optimality_laws.proofs.Best.{ways_spell_trees}
use Rattle.hm_optimality_laws.proofs.Wider.{wider}
use Rattle.hm_graph_laws.specs.ExchangeLaws.{sparing_plain}
use Rattle.hm_check.specs.Steps.{by_rows_over}
use Rattle.hm_check.specs.Verdicts.{same_rules, verdict}
use Rattle.hm_check.specs.declared.verdicts.Verdict.{Verdict}
use Rattle.hm_check.proofs.Checking.{certificate_found, rules_are, source_rows}
use Rattle.hm_check.proofs.Shown.{spelled_verdict}

-- ---- Edges that are kept are edges

in_either : (e x : Edge) (ys es : List Edge) → IsIn e (x ∷ ys) → (IsIn e ys → IsIn e es) → IsIn e (x ∷ es)
in_either e x ys es (first zs) more = first es
in_either e x ys es (later y zs i) more = later x es (more i)

kept_in : (d : Dominance) (unit : Unit) (e : Edge) (before es : List Edge) → IsIn e (kept_after d unit before es) → IsIn e es
kept_in d unit e before [] i = i
kept_in d unit e before (x ∷ es) i = by_test (is_dominated d unit before x es) i (kept_in d unit e (x ∷ before) es)
  where
    by_test : (b : Bool) → IsIn e (cond b (kept_after d unit (x ∷ before) es) (x ∷ kept_after d unit (x ∷ before) es)) → (IsIn e (kept_after d unit (x ∷ before) es) → IsIn e es) → IsIn e (x ∷ es)
    by_test true j more = later x es (more j)
    by_test false j more = in_either e x (kept_after d unit (x ∷ before) es) es j more

edge_in : (format : Format) (t : List Entry) (unit : Unit) (e : Edge) (es : List Edge) → IsIn e (kept_by format t unit es) → IsIn e es
edge_in Full t unit e es i = i
edge_in Compact t unit e es i = i
edge_in Sparse t unit e es i = kept_in (dominance t) unit e [] es i

-- a way of a format's graph is a way of the whole one
way_in : (format : Format) (t : List Entry) (edges : Edges) (units : List Unit) (s : State) (b : List ℕ) → Way (edges_by format t edges) units s b → Way edges units s b
way_in format t edges [] s b way = way
way_in format t edges (unit ∷ units) s b (e, among, (rest, is, more)) = (e, edge_in format t unit e (edges unit s) among, (rest, is, way_in format t edges units e.to rest more))

-- ---- A way is a spelling

way_spells : (g : GraphView) → IsTable g.source.table.entries → IsGraph g → Settled g.source.tree → (b : List ℕ) → WayOver (piece_bytes g.source.table.entries) (units_of g.source.rules g.source.tree) g.steps 0 b
    → Spells g.source.table.entries g.source.rules g.source.tree b
unfolding same_state
way_spells g k h s b over =
    let of = g.source in
    let t : List Entry = of.table.entries in
    let units : List Unit = units_of of.rules of.tree in
    let way : Way (source_edges of) units first_state b = ways_are_ways (source_edges of) (piece_bytes t) units first_layer g.steps g.last first_state 0 b h.fits refl over in
    wider (sparing_plain t of.rules) of.tree other [] b (ways_spell_trees (sparing_plain t of.rules) k of.tree s b (way_in of.format t (edges_of (sparing_plain t of.rules)) units first_state b way))

pub followed_verdict : (v : TableView) → IsTable v.entries → (r : SpellRules) (w : List Event) → Settled w → (out : List ℕ) (c : Certificate) (g : GraphView) → IsGraph g → g.source ≡ record { tree = w; table = v; rules = r; format = c.format }
    → same_rules c.rules r ≡ true → length out ≤ OUTPUT_LIMIT → WayOver (piece_bytes v.entries) (units_of r w) g.steps 0 out → (found : Verdict) → found ≡ by_rows_over g.source.format g.last g.steps (length out) c.prices → found ≡ verdict v.entries r w out c
followed_verdict v k r w s out c g h source same short over found is =
    let table : IsTable g.source.table.entries = subst (λ of. IsTable of.table.entries) (sym source) k in
    let settled : Settled g.source.tree = subst (λ of. Settled of.tree) (sym source) s in
    let way : WayOver (piece_bytes g.source.table.entries) (units_of g.source.rules g.source.tree) g.steps 0 out = subst (λ of. WayOver (piece_bytes of.table.entries) (units_of of.rules of.tree) g.steps 0 out) (sym source) over in
    let spells : Spells v.entries r w out = subst (λ of. Spells of.table.entries of.rules of.tree out) source (way_spells g table h settled out way) in
    certificate_found g h (length out) c.prices found is ∙ ap (λ of. source_rows of (length out) c.prices) source ∙ sym (rules_are v.entries r w out c same ∙ spelled_verdict v.entries k r w s out c spells short)
