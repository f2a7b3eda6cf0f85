-- A yes, and all that it stands for: rows that stand for prices of all layers are as many and as wide as the layers.
use Rattle.std.proofs.Common.{◌≡◌, ◌∙◌, ◌==◌, ◌≤◌, ℕ, suc, Bool, true, false, not, ◌&&◌, List, [], ◌∷◌, length, Option, Some, None, cond, refl, ap, sym, nat_lt}
use Rattle.std.proofs.lemmas.Bool.{eq-eqb, le-ltb}
use Rattle.hm_base.specs.Walks.{Event}
use Rattle.hm_base.specs.declared.limits.TheConstants.{OUTPUT_LIMIT}
use Rattle.hm_base.specs.declared.plain.SpellRules.{SpellRules}
use Rattle.hm_cert.specs.declared.certificate.Certificate.{Certificate}
use Rattle.hm_build.specs.Trees.{built}
use Rattle.hm_graph.specs.Graphs.{tree_edges}
use Rattle.hm_graph_laws.specs.Layers.{LayerTest, first_layer, states_after, written, written_from}
use Rattle.hm_graph_laws.specs.Prices.{Row, Feasible, first_price, followed_by, full, full_from, with_row}
use Rattle.hm_graph_laws.specs.States.{State}
use Rattle.hm_graph_laws.specs.Units.{Unit, units_of}
use Rattle.hm_graph_laws.specs.Ways.{Edges}
use Rattle.hm_optimality_laws.specs.Formats.{follows_by}
use Rattle.hm_refs.specs.Names.{Entry}
use Rattle.hm_check.specs.Laws.{IsEarned, YesIsEarned}
use Rattle.hm_check.specs.Rows.{OtherWidth, high_price, other_width}
use Rattle.hm_check.specs.Verdicts.{by_difference, by_first, by_full, by_high, by_outcome, by_rows, by_width, out_outcome, verdict}
use Rattle.hm_check.specs.declared.verdicts.Verdict.TheVariants.{Yes, No}
use Rattle.hm_check.specs.declared.verdicts.Why.TheVariants.{RulesDiffer, WrongLayers}
use Rattle.hm_check.proofs.Feasible.{feasible_high}
use Rattle.hm_check.proofs.SameTrees.{no_difference}
use Rattle.hm_check.proofs.Shown.{AreShown, IsAccepted, rows_shown, verdict_accepted}

-- ---- Rows

-- as many rows as written layers, each as wide as its layer
rows_are_layers : (edges : Edges) (follows : LayerTest) (k : ℕ) (units : List Unit) (states : List State) (rows prices : List Row) → full_from edges follows k units states rows ≡ Some prices
    → (length rows ≡ length (written_from edges follows k units states)) × (other_width edges follows k units states rows ≡ None)
rows_are_layers edges follows k [] states [] prices h = absurd (cc)
rows_are_layers edges follows k [] states (row ∷ []) prices h = by_width_test (length row == length states) h
  where
    last : OtherWidth
    last = record { layer = k; got = length row; want = length states }

    by_width_test : (b : Bool) → cond b (Some (row ∷ [])) None ≡ Some prices → (length (row ∷ []) ≡ length (k ∷ [])) × (cond b None (Some last) ≡ None)
    by_width_test true e = (refl, refl)
    by_width_test false e = absurd (cc)
rows_are_layers edges follows k [] states (row ∷ more ∷ rows) prices h = absurd (cc)
rows_are_layers edges follows k (unit ∷ units) states [] prices h = absurd (cc)
rows_are_layers edges follows k (unit ∷ units) states (row ∷ rows) prices h =
    by_test (not (k == 0) && follows unit states)
    (λ p e. rows_are_layers edges follows (suc k) units after (row ∷ rows) p e)
    (λ p e. rows_are_layers edges follows (suc k) units after rows p e) h
  where
    after : List State
    after = states_after edges unit states

    numbers : List ℕ
    numbers = written_from edges follows (suc k) units after

    Leads : List Row → Type 0
    Leads left = (p : List Row) → full_from edges follows (suc k) units after left ≡ Some p → (length left ≡ length numbers) × (other_width edges follows (suc k) units after left ≡ None)

    other : OtherWidth
    other = record { layer = k; got = length row; want = length states }

    by_followed : (p : Option (List Row)) → full_from edges follows (suc k) units after (row ∷ rows) ≡ p → Leads (row ∷ rows) → followed_by edges unit states p ≡ Some prices
        → (length (row ∷ rows) ≡ length numbers) × (other_width edges follows (suc k) units after (row ∷ rows) ≡ None)
    by_followed None is leads e = absurd (cc)
    by_followed (Some p) is leads e = leads p is

    by_row : (p : Option (List Row)) → full_from edges follows (suc k) units after rows ≡ p → Leads rows → with_row row p ≡ Some prices → (length rows ≡ length numbers) × (other_width edges follows (suc k) units after rows ≡ None)
    by_row None is leads e = absurd (cc)
    by_row (Some p) is leads e = leads p is

    by_width_test : (b : Bool) → Leads rows → cond b (with_row row (full_from edges follows (suc k) units after rows)) None ≡ Some prices
        → (suc (length rows) ≡ suc (length numbers)) × (cond b (other_width edges follows (suc k) units after rows) (Some other) ≡ None)
    by_width_test true leads e = let more = by_row (full_from edges follows (suc k) units after rows) refl leads e in (ap (λ n. suc n) more.0, more.1)
    by_width_test false leads e = absurd (cc)

    by_test : (b : Bool) → Leads (row ∷ rows) → Leads rows
        → cond b (followed_by edges unit states (full_from edges follows (suc k) units after (row ∷ rows))) (cond (length row == length states) (with_row row (full_from edges follows (suc k) units after rows)) None) ≡ Some prices
        → (length (row ∷ rows) ≡ length (cond b numbers (k ∷ numbers)))
        × (cond b (other_width edges follows (suc k) units after (row ∷ rows)) (cond (length row == length states) (other_width edges follows (suc k) units after rows) (Some other)) ≡ None)
    by_test true out further e = by_followed (full_from edges follows (suc k) units after (row ∷ rows)) refl out e
    by_test false out further e = by_width_test (length row == length states) further e

-- so rows that stand for feasible prices are accepted, where the first of these bounds the text
rows_accepted : (edges : Edges) (follows : LayerTest) (units : List Unit) (n : ℕ) (rows prices : List Row) (first : ℕ) → full edges follows units rows ≡ Some prices → Feasible edges units prices → first_price prices ≡ Some first → n ≤ first
    → by_rows edges follows n units rows ≡ Yes n
rows_accepted edges follows units n rows prices first whole feasible price short =
    let layers = rows_are_layers edges follows 0 units first_layer rows prices whole in
    let count : (length rows == length (written edges follows units)) ≡ true = eq-eqb (length rows) (length (written edges follows units)) layers.0 in
    let high : high_price edges 0 units first_layer prices ≡ None = feasible_high edges 0 units first_layer prices feasible in
    (λ i. cond (count i) (by_width edges follows n units rows (layers.1 i)) (No (WrongLayers (length rows) (length (written edges follows units)))))
    ∙ ap (by_full edges n units) whole ∙ ap (by_high n prices) high ∙ ap (by_first n) price ∙ rw (le-ltb first n short) refl

-- ---- The text

pub earned : (t : List Entry) (r : SpellRules) (w : List Event) (out : List ℕ) (c : Certificate) → IsEarned t r w out c → verdict t r w out c ≡ Yes (length out)
unfolding verdict out_outcome
earned t r w out c h =
    let within : nat_lt OUTPUT_LIMIT (length out) ≡ false = le-ltb OUTPUT_LIMIT (length out) h.short in
    let outcome : out_outcome t out ≡ built w = rw within h.parses in
    ap (λ b. cond b (by_outcome t r w (length out) c (out_outcome t out)) (No RulesDiffer)) h.rules
    ∙ ap (by_outcome t r w (length out) c) outcome ∙ ap (by_difference t r w (length out) c) (no_difference w)
    ∙ rows_accepted (tree_edges t r c.format) (follows_by c.format (tree_edges t r c.format)) (units_of r w) (length out) c.prices h.prices h.first h.full h.feasible h.price h.bound

pub yes_is_earned : YesIsEarned
yes_is_earned t r w out c = (by_yes, earned t r w out c)
  where
    by_yes : (n : ℕ) → verdict t r w out c ≡ Yes n → IsEarned t r w out c × (n ≡ length out)
    by_yes n h =
        let a : IsAccepted t r w out c n = verdict_accepted t r w out c n h in
        let shown : AreShown (tree_edges t r c.format) (follows_by c.format (tree_edges t r c.format)) (units_of r w) c.prices (length out) n =
        rows_shown (tree_edges t r c.format) (follows_by c.format (tree_edges t r c.format)) (units_of r w) (length out) n c.prices a.rows
        in
        (record { rules = a.rules; short = a.short; parses = a.parses; prices = shown.prices; full = shown.full; feasible = shown.feasible; first = shown.first; price = shown.price; bound = shown.short }, sym shown.same)
