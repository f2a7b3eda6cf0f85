-- What the parts of a check find is its verdict.
use Rattle.std.proofs.Common.{◌≡◌, ◌≤◌, ◌<◌, ℕ, Bool, true, false, cond, List, length, nat_lt, Option, Some, None, refl, sym, ap, ◌∙◌, subst}
use Rattle.std.specs.Option.{option_map, MatchOption}
use Rattle.std.specs.declared.result.Result.{Result}
use Rattle.std.specs.declared.result.Result.TheVariants.{Ok, Err}
use Rattle.std.specs.Result.{IfOk, IfErr}
use Rattle.std.proofs.lemmas.Bool.{lt-ltb, le-ltb, ltb-true, ltb-false}
use Rattle.hm_base.specs.Faults.{HasText, IsRefusalOf}
use Rattle.hm_base.specs.Source.{Refusal, refusal_at, Source, source_of, text_fault}
use Rattle.hm_base.specs.Walks.{Event}
use Rattle.hm_base.specs.declared.limits.TheConstants.{OUTPUT_LIMIT}
use Rattle.hm_base.specs.declared.plain.SpellRules.{SpellRules}
use Rattle.hm_base.specs.declared.rules.Refused.{Refused}
use Rattle.hm_base.specs.declared.rules.Refused.TheVariants as refused
use Rattle.hm_base.specs.declared.rules.Rule.{Rule}
use Rattle.hm_base.specs.declared.rules.Rule.TheVariants as rules
use Rattle.hm_build.specs.Parsing.{IsRefusedAs}
use Rattle.hm_cert.specs.declared.certificate.Certificate.{Certificate}
use Rattle.hm_build.specs.Trees.{Outcome, built, refused_by, page_tree, tree_of_source}
use Rattle.hm_edges.specs.Pieces.{piece_bytes}
use Rattle.hm_graph_laws.specs.Prices.{Row}
use Rattle.hm_graph.specs.Graphs.{GraphSource, GraphView, IsGraph, source_edges, tree_edges}
use Rattle.hm_refs.specs.Names.{Entry}
use Rattle.hm_optimality_laws.specs.Formats.{follows_by}
use Rattle.hm_tree.specs.Trees.{DifferFirstAt}
use Rattle.hm_graph_laws.specs.Units.{units_of}
use Rattle.hm_check.specs.Differences.{first_difference}
use Rattle.hm_check.specs.Steps.{by_rows_over}
use Rattle.hm_check.specs.Trees.{tree_why}
use Rattle.hm_check.specs.Verdicts.{same_rules, out_outcome, by_rows, by_difference, by_outcome, verdict}
use Rattle.hm_check.specs.declared.verdicts.Verdict.{Verdict}
use Rattle.hm_check.specs.declared.verdicts.Verdict.TheVariants.{No}
use Rattle.hm_check.specs.declared.verdicts.Why.{Why}
use Rattle.hm_check.specs.declared.verdicts.Why.TheVariants.{RulesDiffer, TreesDiffer}
use Rattle.hm_check.proofs.OverSteps.{rows_found}
use Rattle.hm_check.proofs.SameTrees.{no_difference, difference_at}

pub if_ok : {T E : Type 0} (r : Result T E) {P Q : T → Type 0} → ((x : T) → P x → Q x) → IfOk r P → IfOk r Q
if_ok (Ok x) f p = f x p
if_ok (Err e) f p = tt

pub if_err : {T E : Type 0} (r : Result T E) {P Q : E → Type 0} → ((e : E) → P e → Q e) → IfErr r P → IfErr r Q
if_err (Ok x) f p = tt
if_err (Err e) f p = f e p

-- ---- The text

-- a text that is too long
pub long_out : (t : List Entry) (out : List ℕ) → OUTPUT_LIMIT < length out → out_outcome t out ≡ refused_by rules.TooLong OUTPUT_LIMIT
unfolding out_outcome
long_out t out h = let long : nat_lt OUTPUT_LIMIT (length out) ≡ true = lt-ltb OUTPUT_LIMIT (length out) h in rw long refl

-- one that is none
pub faulty_out : (t : List Entry) (out : List ℕ) (rule : Rule) (at : ℕ) → length out ≤ OUTPUT_LIMIT → text_fault out ≡ Some (refusal_at rule at) → out_outcome t out ≡ refused_by rule at
unfolding out_outcome page_tree
faulty_out t out rule at h e = let short : nat_lt OUTPUT_LIMIT (length out) ≡ false = le-ltb OUTPUT_LIMIT (length out) h in rw (short, e) refl

-- one that is refused
pub out_refused : (t : List Entry) (out : List ℕ) (r : Refused) → IsRefusalOf r OUTPUT_LIMIT out → IsRefusedAs (out_outcome t out) r
out_refused t out (refused.Page rule at) h = by_length (nat_lt OUTPUT_LIMIT (length out)) refl h
  where
    by_length : (long : Bool) → nat_lt OUTPUT_LIMIT (length out) ≡ long → cond long (Some (refusal_at rules.TooLong OUTPUT_LIMIT)) (text_fault out) ≡ Some (refusal_at rule at) → out_outcome t out ≡ refused_by rule at
    by_length true e f =
        let same : refusal_at rules.TooLong OUTPUT_LIMIT ≡ refusal_at rule at = cc in
        long_out t out (ltb-true OUTPUT_LIMIT (length out) e) ∙ ap (λ (x : Refusal). refused_by x.rule x.at) same
    by_length false e f = faulty_out t out rule at (ltb-false OUTPUT_LIMIT (length out) e) f
out_refused t out refused.OutOfMemory h = tt

-- and one that is read
pub read_outcome : (t : List Entry) (out : List ℕ) (text : Source) (o : Outcome) → HasText OUTPUT_LIMIT out → text ≡ source_of out → tree_of_source t text ≡ o → out_outcome t out ≡ o
unfolding out_outcome page_tree
read_outcome t out text o h is e =
    let short : nat_lt OUTPUT_LIMIT (length out) ≡ false = le-ltb OUTPUT_LIMIT (length out) h.short in
    rw (short, h.sound) (ap (tree_of_source t) (sym is) ∙ e)

pub read_refused : (t : List Entry) (out : List ℕ) (text : Source) (refused : Refused) → HasText OUTPUT_LIMIT out → text ≡ source_of out → IsRefusedAs (tree_of_source t text) refused → IsRefusedAs (out_outcome t out) refused
read_refused t out text refused h is r = subst (λ o. IsRefusedAs o refused) (sym (read_outcome t out text (tree_of_source t text) h is refl)) r

-- ---- Its tree

pub difference_is : (w v : List Event) (found : Option ℕ) → MatchOption found (w ≡ v) (DifferFirstAt w v) → found ≡ first_difference w v
difference_is w v None same = sym (subst (λ x. first_difference w x ≡ None) same (no_difference w))
difference_is w v (Some i) differs = sym (difference_at w v i differs)

-- ---- The rows

-- by the edges of what a graph is of
abbrev pub source_rows : GraphSource → ℕ → List Row → Verdict
source_rows of n rows = by_rows (source_edges of) (follows_by of.format (source_edges of)) n (units_of of.rules of.tree) rows

pub certificate_found : (g : GraphView) → IsGraph g → (n : ℕ) (rows : List Row) (found : Verdict) → found ≡ by_rows_over g.source.format g.last g.steps n rows → found ≡ source_rows g.source n rows
certificate_found g h n rows found e =
    let of = g.source in
    e ∙ rows_found (source_edges of) (piece_bytes of.table.entries) (units_of of.rules of.tree) g.steps g.last of.format n rows h.fits

-- ---- The verdict

pub rules_other : (t : List Entry) (r : SpellRules) (w : List Event) (out : List ℕ) (c : Certificate) → same_rules c.rules r ≡ false → No RulesDiffer ≡ verdict t r w out c
unfolding verdict
rules_other t r w out c e = rw e refl

pub rules_are : (t : List Entry) (r : SpellRules) (w : List Event) (out : List ℕ) (c : Certificate) → same_rules c.rules r ≡ true → verdict t r w out c ≡ by_outcome t r w (length out) c (out_outcome t out)
unfolding verdict
rules_are t r w out c e = rw e refl

outcome_other : (t : List Entry) (r : SpellRules) (w : List Event) (n : ℕ) (c : Certificate) (o : Outcome) (why : Why) → Some why ≡ tree_why w o → No why ≡ by_outcome t r w n c o
outcome_other t r w n c (refused_by rule at) why e = ap No (cc)
outcome_other t r w n c (built v) why e = by_case (first_difference v w) e
  where
    by_case : (d : Option ℕ) → Some why ≡ option_map (λ i. TreesDiffer i) d → No why ≡ by_difference t r w n c d
    by_case None k = absurd (cc)
    by_case (Some i) k = ap No (cc)

outcome_right : (t : List Entry) (r : SpellRules) (w : List Event) (n : ℕ) (c : Certificate) (o : Outcome) → None ≡ tree_why w o
    → by_outcome t r w n c o ≡ by_rows (tree_edges t r c.format) (follows_by c.format (tree_edges t r c.format)) n (units_of r w) c.prices
outcome_right t r w n c (refused_by rule at) e = absurd (cc)
outcome_right t r w n c (built v) e = by_case (first_difference v w) e
  where
    by_case : (d : Option ℕ) → None ≡ option_map (λ i. TreesDiffer i) d
        → by_difference t r w n c d ≡ by_rows (tree_edges t r c.format) (follows_by c.format (tree_edges t r c.format)) n (units_of r w) c.prices
    by_case None k = refl
    by_case (Some i) k = absurd (cc)

pub tree_other : (t : List Entry) (r : SpellRules) (w : List Event) (out : List ℕ) (c : Certificate) (why : Why) → same_rules c.rules r ≡ true → Some why ≡ tree_why w (out_outcome t out) → No why ≡ verdict t r w out c
tree_other t r w out c why same e = outcome_other t r w (length out) c (out_outcome t out) why e ∙ sym (rules_are t r w out c same)

pub tree_right : (t : List Entry) (r : SpellRules) (w : List Event) (out : List ℕ) (c : Certificate) (n : ℕ) (found : Verdict) → same_rules c.rules r ≡ true → None ≡ tree_why w (out_outcome t out) → n ≡ length out
    → found ≡ by_rows (tree_edges t r c.format) (follows_by c.format (tree_edges t r c.format)) n (units_of r w) c.prices → found ≡ verdict t r w out c
tree_right t r w out c n found same e len is =
    is ∙ ap (λ m. by_rows (tree_edges t r c.format) (follows_by c.format (tree_edges t r c.format)) m (units_of r w) c.prices) len
    ∙ sym (rules_are t r w out c same ∙ outcome_right t r w (length out) c (out_outcome t out) e)
