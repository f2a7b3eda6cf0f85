-- What a yes shows, and what is accepted.
use Rattle.std.proofs.Common.{◌≡◌, ◌≢◌, ◌≤◌, ◌==◌, ℕ, Bool, true, false, List, length, nat_lt, Option, Some, None, cond, refl, sym, ap, ◌∙◌, arith}
use Rattle.std.proofs.lemmas.Bool.{ltb-false, le-ltb}
use Rattle.hm_base.specs.Walks.{Event}
use Rattle.hm_base.specs.declared.limits.TheConstants.{OUTPUT_LIMIT}
use Rattle.hm_base.specs.declared.plain.SpellRules.{SpellRules}
use Rattle.hm_base.specs.declared.rules.Rule.{Rule}
use Rattle.hm_base.specs.declared.rules.Rule.TheVariants as faults
use Rattle.hm_cert.specs.declared.certificate.Certificate.{Certificate}
use Rattle.hm_build.specs.Trees.{Outcome, built, refused_by, page_tree}
use Rattle.hm_graph_laws.specs.ExchangeLaws.{sparing_plain}
use Rattle.hm_elements.specs.Settled.{Settled}
use Rattle.hm_elements.proofs.Events.{is_same}
use Rattle.hm_graph_laws.specs.Layers.{LayerTest, first_layer, written}
use Rattle.hm_graph_laws.specs.Prices.{Row, Feasible, first_price, full}
use Rattle.hm_graph_laws.specs.UnitEdges.{edges_of}
use Rattle.hm_graph_laws.specs.Ways.{Edges, first_way}
use Rattle.hm_graph.specs.Graphs.{tree_edges}
use Rattle.hm_refs.specs.Names.{Entry}
use Rattle.hm_refs.specs.Tables.{IsTable}
use Rattle.hm_spelling_spec.specs.Spellings.{Spells, Shortest, everywhere}
use Rattle.hm_optimality_laws.specs.Formats.{follows_by}
use Rattle.hm_graph_laws.specs.States.{first_state}
use Rattle.hm_graph_laws.specs.Units.{Unit, units_of}
use Rattle.hm_optimality_laws.specs.SpellingLaws.{IsBest}
use Rattle.hm_round_trip_laws.proofs.ReadBack.{spellings_are_read_back}
use Rattle.hm_optimality_laws.proofs.Best.{first_ways_are_best}
use Rattle.hm_optimality_laws.proofs.Formats.{prices_show, same_first}
use Rattle.hm_check.specs.Differences.{first_difference}
use Rattle.hm_check.specs.Laws.{least_certificate, YesShows, SpellingsAreAccepted, MinifiedIsAccepted}
use Rattle.hm_check.specs.Rows.{OtherWidth, HighPrice, other_width, high_price}
use Rattle.hm_check.specs.Verdicts.{same_rules, out_outcome, by_first, by_high, by_full, by_width, by_rows, by_difference, by_outcome, verdict}
use Rattle.hm_check.specs.declared.verdicts.Verdict.{Verdict}
use Rattle.hm_check.specs.declared.verdicts.Verdict.TheVariants.{Yes, No}
use Rattle.hm_check.specs.declared.verdicts.Why.TheVariants.{RulesDiffer, OutRefused, TreesDiffer, WrongLayers, TooLong}
use Rattle.hm_check.proofs.Accepted.{least_accepted}
use Rattle.hm_check.proofs.Feasible.{AreWide, full_wide, high_feasible}
use Rattle.hm_check.proofs.SameTrees.{no_difference, walks_same}

-- ---- What a yes shows of the rows

pub record AreShown (edges : Edges) (follows : LayerTest) (units : List Unit) (rows : List Row) (n m : ℕ) : Type 0 where
  pub prices : List Row
  pub full : full edges follows units rows ≡ Some prices
  pub feasible : Feasible edges units prices
  pub first : ℕ
  pub price : first_price prices ≡ Some first
  pub short : n ≤ first
  pub same : n ≡ m

first_shown : (edges : Edges) (follows : LayerTest) (units : List Unit) (rows : List Row) (n m : ℕ) (prices : List Row) (p : Option ℕ) → full edges follows units rows ≡ Some prices → Feasible edges units prices → first_price prices ≡ p → by_first n p ≡ Yes m → AreShown edges follows units rows n m
first_shown edges follows units rows n m prices None w f is h = absurd (cc)
first_shown edges follows units rows n m prices (Some first) w f is h = by_test (nat_lt first n) refl h
  where
    by_test : (b : Bool) → nat_lt first n ≡ b → cond b (No (TooLong n first)) (Yes n) ≡ Yes m → AreShown edges follows units rows n m
    by_test true e k = absurd (cc)
    by_test false e k = record { prices = prices; full = w; feasible = f; first = first; price = is; short = ltb-false first n e; same = cc }

high_shown : (edges : Edges) (follows : LayerTest) (units : List Unit) (rows : List Row) (n m : ℕ) (prices : List Row) (h : Option HighPrice) → full edges follows units rows ≡ Some prices → AreWide edges units first_layer prices → high_price edges 0 units first_layer prices ≡ h → by_high n prices h ≡ Yes m → AreShown edges follows units rows n m
high_shown edges follows units rows n m prices (Some h) w wide is k = absurd (cc)
high_shown edges follows units rows n m prices None w wide is k = first_shown edges follows units rows n m prices (first_price prices) w (high_feasible edges 0 units first_layer prices wide is) refl k

full_shown : (edges : Edges) (follows : LayerTest) (units : List Unit) (n m : ℕ) (rows : List Row) (p : Option (List Row)) → full edges follows units rows ≡ p → by_full edges n units p ≡ Yes m → AreShown edges follows units rows n m
full_shown edges follows units n m rows None is h = absurd (cc)
full_shown edges follows units n m rows (Some prices) is h = high_shown edges follows units rows n m prices (high_price edges 0 units first_layer prices) is (full_wide edges follows 0 units first_layer rows prices is) refl h

width_shown : (edges : Edges) (follows : LayerTest) (units : List Unit) (n m : ℕ) (rows : List Row) (w : Option OtherWidth) → by_width edges follows n units rows w ≡ Yes m → AreShown edges follows units rows n m
width_shown edges follows units n m rows (Some w) h = absurd (cc)
width_shown edges follows units n m rows None h = full_shown edges follows units n m rows (full edges follows units rows) refl h

pub rows_shown : (edges : Edges) (follows : LayerTest) (units : List Unit) (n m : ℕ) (rows : List Row) → by_rows edges follows n units rows ≡ Yes m → AreShown edges follows units rows n m
rows_shown edges follows units n m rows h = by_test (length rows == length (written edges follows units)) h
  where
    by_test : (b : Bool) → cond b (by_width edges follows n units rows (other_width edges follows 0 units first_layer rows)) (No (WrongLayers (length rows) (length (written edges follows units)))) ≡ Yes m → AreShown edges follows units rows n m
    by_test true k = width_shown edges follows units n m rows (other_width edges follows 0 units first_layer rows) k
    by_test false k = absurd (cc)

-- ---- What it shows of the text

-- the text of a yes has the wanted tree, and its rows are accepted
pub record IsAccepted (t : List Entry) (r : SpellRules) (w : List Event) (out : List ℕ) (c : Certificate) (m : ℕ) : Type 0 where
  pub rules : same_rules c.rules r ≡ true
  pub short : length out ≤ OUTPUT_LIMIT
  pub parses : page_tree t out ≡ built w
  pub rows : by_rows (tree_edges t r c.format) (follows_by c.format (tree_edges t r c.format)) (length out) (units_of r w) c.prices ≡ Yes m

difference_accepted : (t : List Entry) (r : SpellRules) (w v : List Event) (out : List ℕ) (c : Certificate) (m : ℕ) (d : Option ℕ) → same_rules c.rules r ≡ true → length out ≤ OUTPUT_LIMIT → page_tree t out ≡ built v → first_difference v w ≡ d → by_difference t r w (length out) c d ≡ Yes m → IsAccepted t r w out c m
difference_accepted t r w v out c m (Some i) rules short tree is h = absurd (cc)
difference_accepted t r w v out c m None rules short tree is h = record { rules = rules; short = short; parses = tree ∙ ap built (walks_same v w is); rows = h }

outcome_accepted : (t : List Entry) (r : SpellRules) (w : List Event) (out : List ℕ) (c : Certificate) (m : ℕ) (o : Outcome) → same_rules c.rules r ≡ true → length out ≤ OUTPUT_LIMIT → page_tree t out ≡ o → by_outcome t r w (length out) c o ≡ Yes m → IsAccepted t r w out c m
outcome_accepted t r w out c m (refused_by rule at) rules short tree h = absurd (cc)
outcome_accepted t r w out c m (built v) rules short tree h = difference_accepted t r w v out c m (first_difference v w) rules short tree refl h

text_accepted : (t : List Entry) (r : SpellRules) (w : List Event) (out : List ℕ) (c : Certificate) (m : ℕ) → same_rules c.rules r ≡ true → by_outcome t r w (length out) c (out_outcome t out) ≡ Yes m → IsAccepted t r w out c m
unfolding out_outcome
text_accepted t r w out c m rules h = by_test (nat_lt OUTPUT_LIMIT (length out)) refl h
  where
    by_test : (b : Bool) → nat_lt OUTPUT_LIMIT (length out) ≡ b → by_outcome t r w (length out) c (cond b (refused_by faults.TooLong OUTPUT_LIMIT) (page_tree t out)) ≡ Yes m → IsAccepted t r w out c m
    by_test true e k = absurd (cc)
    by_test false e k = outcome_accepted t r w out c m (page_tree t out) rules (ltb-false OUTPUT_LIMIT (length out) e) refl k

pub verdict_accepted : (t : List Entry) (r : SpellRules) (w : List Event) (out : List ℕ) (c : Certificate) (m : ℕ) → verdict t r w out c ≡ Yes m → IsAccepted t r w out c m
unfolding verdict
verdict_accepted t r w out c m h = by_test (same_rules c.rules r) refl h
  where
    by_test : (b : Bool) → same_rules c.rules r ≡ b → cond b (by_outcome t r w (length out) c (out_outcome t out)) (No RulesDiffer) ≡ Yes m → IsAccepted t r w out c m
    by_test true e k = text_accepted t r w out c m e k
    by_test false e k = absurd (cc)

pub yes_shows : YesShows
yes_shows t k r w s out c m h =
    let accepted : IsAccepted t r w out c m = verdict_accepted t r w out c m h in
    let shown : AreShown (tree_edges t r c.format) (follows_by c.format (tree_edges t r c.format)) (units_of r w) c.prices (length out) m = rows_shown (tree_edges t r c.format) (follows_by c.format (tree_edges t r c.format)) (units_of r w) (length out) m c.prices accepted.rows in
    let bound : Shortest t r w shown.first = prices_show t k r c.format w s shown.prices shown.first shown.feasible shown.price in
    record { len = sym shown.same; parses = accepted.parses; shortest = λ b spells. omega (arith, shown.short, bound b spells) }

-- ---- A spelling

short_test : (n m : ℕ) → m ≤ n → nat_lt n m ≡ false
short_test n m h = le-ltb n m h

-- the tree of a spelling is the wanted one
spelled_outcome : (t : List Entry) → IsTable t → (r : SpellRules) (w : List Event) → Settled w → (out : List ℕ) → Spells t r w out → length out ≤ OUTPUT_LIMIT → out_outcome t out ≡ built w
unfolding out_outcome
spelled_outcome t k r w s out spells short =
    let within : nat_lt OUTPUT_LIMIT (length out) ≡ false = short_test OUTPUT_LIMIT (length out) short in
    rw within (spellings_are_read_back everywhere t r w out k s spells)

-- so its rows decide
pub spelled_verdict : (t : List Entry) → IsTable t → (r : SpellRules) (w : List Event) → Settled w → (out : List ℕ) (c : Certificate) → Spells t r w out → length out ≤ OUTPUT_LIMIT
    → by_outcome t r w (length out) c (out_outcome t out) ≡ by_rows (tree_edges t r c.format) (follows_by c.format (tree_edges t r c.format)) (length out) (units_of r w) c.prices
spelled_verdict t k r w s out c spells short = ap (by_outcome t r w (length out) c) (spelled_outcome t k r w s out spells short) ∙ ap (by_difference t r w (length out) c) (no_difference w)

-- whether a verdict is about the tree of the text
is_of_tree : Verdict → Bool
is_of_tree (No (OutRefused rule at)) = true
is_of_tree (No (TreesDiffer event)) = true
is_of_tree v = false

first_other : (n : ℕ) (p : Option ℕ) → is_of_tree (by_first n p) ≡ false
unfolding is_of_tree
first_other n None = refl
first_other n (Some first) = by_test (nat_lt first n)
  where
    by_test : (b : Bool) → is_of_tree (cond b (No (TooLong n first)) (Yes n)) ≡ false
    by_test true = refl
    by_test false = refl

high_other : (n : ℕ) (prices : List Row) (h : Option HighPrice) → is_of_tree (by_high n prices h) ≡ false
unfolding is_of_tree
high_other n prices (Some h) = refl
high_other n prices None = first_other n (first_price prices)

full_other : (edges : Edges) (n : ℕ) (units : List Unit) (p : Option (List Row)) → is_of_tree (by_full edges n units p) ≡ false
unfolding is_of_tree
full_other edges n units None = refl
full_other edges n units (Some prices) = high_other n prices (high_price edges 0 units first_layer prices)

width_other : (edges : Edges) (follows : LayerTest) (n : ℕ) (units : List Unit) (rows : List Row) (w : Option OtherWidth) → is_of_tree (by_width edges follows n units rows w) ≡ false
unfolding is_of_tree
width_other edges follows n units rows (Some w) = refl
width_other edges follows n units rows None = full_other edges n units (full edges follows units rows)

rows_other : (edges : Edges) (follows : LayerTest) (n : ℕ) (units : List Unit) (rows : List Row) → is_of_tree (by_rows edges follows n units rows) ≡ false
unfolding is_of_tree
rows_other edges follows n units rows = by_test (length rows == length (written edges follows units))
  where
    by_test : (b : Bool) → is_of_tree (cond b (by_width edges follows n units rows (other_width edges follows 0 units first_layer rows)) (No (WrongLayers (length rows) (length (written edges follows units))))) ≡ false
    by_test true = width_other edges follows n units rows (other_width edges follows 0 units first_layer rows)
    by_test false = refl

spelled_other : (t : List Entry) → IsTable t → (r : SpellRules) (w : List Event) → Settled w → (out : List ℕ) (c : Certificate) → Spells t r w out → length out ≤ OUTPUT_LIMIT → is_of_tree (verdict t r w out c) ≡ false
unfolding verdict is_of_tree
spelled_other t k r w s out c spells short = by_test (same_rules c.rules r)
  where
    by_test : (b : Bool) → is_of_tree (cond b (by_outcome t r w (length out) c (out_outcome t out)) (No RulesDiffer)) ≡ false
    by_test true =
        ap is_of_tree (spelled_verdict t k r w s out c spells short)
        ∙ rows_other (tree_edges t r c.format) (follows_by c.format (tree_edges t r c.format)) (length out) (units_of r w) c.prices
    by_test false = refl

refused_is : (rule : Rule) (at : ℕ) → is_of_tree (No (OutRefused rule at)) ≡ true
unfolding is_of_tree
refused_is rule at = refl

differs_is : (event : ℕ) → is_of_tree (No (TreesDiffer event)) ≡ true
unfolding is_of_tree
differs_is event = refl

never : (v found : Verdict) → is_of_tree v ≡ false → is_of_tree found ≡ true → v ≢ found
never v found other is e = let same : is_of_tree v ≡ is_of_tree found = ap is_of_tree e in cc

pub spellings_are_accepted : SpellingsAreAccepted
spellings_are_accepted t k r w s out c spells short =
    let other : is_of_tree (verdict t r w out c) ≡ false = spelled_other t k r w s out c spells short in
    (λ rule at. never (verdict t r w out c) (No (OutRefused rule at)) other (refused_is rule at), λ event. never (verdict t r w out c) (No (TreesDiffer event)) other (differs_is event))

-- ---- The shortest text

pub rules_same : (r : SpellRules) → same_rules r r ≡ true
rules_same r = rw (is_same r.omit r.omit refl, is_same r.unquote r.unquote refl, is_same r.tight r.tight refl, is_same r.ascii r.ascii refl) (is_same r.frame r.frame refl)

pub minified_is_accepted : MinifiedIsAccepted
unfolding verdict
minified_is_accepted t k r format w s short =
    let edges : Edges = edges_of (sparing_plain t r) in
    let out : List ℕ = first_way edges (units_of r w) first_state in
    let best : IsBest t r w out = first_ways_are_best t k r w s in
    ap (λ b. cond b (by_outcome t r w (length out) (least_certificate t r format w) (out_outcome t out)) (No RulesDiffer)) (rules_same r)
    ∙ spelled_verdict t k r w s out (least_certificate t r format w) best.spells short
    ∙ least_accepted (tree_edges t r format) (follows_by format (tree_edges t r format)) (units_of r w) (length out) (same_first t k r format w ∙ best.price)
