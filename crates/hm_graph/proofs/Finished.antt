-- A graph that is built is that of its tree.
use Rattle.std.proofs.Common.{◌≡◌, ◌∙◌, ℕ, ◌<◌, ◌^◌, arith, get_or, List, [], ◌∷◌, ◌++◌, length, map, Option, None, Some, refl, sym, ap, subst, append-nil}
use Rattle.std.specs.Prelude.{IsSome, unwrap_or}
use Rattle.std.proofs.lemmas.List.{length-map}
use Rattle.std.proofs.Math.ListN as lists
use Rattle.hm_base.specs.Walks.{Event}
use Rattle.hm_graph_laws.specs.Layers.{first_layer}
use Rattle.hm_graph_laws.specs.Units.{Unit, units_of}
use Rattle.hm_edges.specs.Pieces.{piece_bytes}
use Rattle.hm_edges.specs.States.{state_of}
use Rattle.hm_graph.specs.Fits.{StepsFit}
use Rattle.hm_graph.specs.Steps.{Step}
use Rattle.hm_graph.specs.Building.{AddsSteps, BuildingView, IsBegun, IsBuilt, Lead, more_steps, recorded_at, steps_at}
use Rattle.hm_graph.specs.Going.{Goes, IsWalk}
use Rattle.hm_graph.specs.declared.along.Along.{Along}
use Rattle.hm_graph.specs.declared.walked.Walked.{Walked}
use Rattle.hm_refs.specs.Names.{Entry}
use Rattle.hm_refs.specs.Tables.{TableView}
use Rattle.std.specs.List.{All}
use Rattle.hm_graph.specs.Graphs.{GraphSource, GraphView, IsGraph, AreLow, AreNamed, AreNumbers, source_edges, spread}
use Rattle.hm_graph.specs.Layers.{edges_under, states_of}
use Rattle.hm_graph.specs.Interned.{InternedView, none_made}
use Rattle.hm_graph.specs.declared.made.MadeStep.{MadeStep}
use Rattle.hm_graph.proofs.Built.{lead_fits}

pub spread_made : (m : InternedView) (steps : List Step) (numbers : List ℕ) → steps ≡ map (λ x. x.step) m.steps → spread steps numbers ≡ steps_at m numbers
spread_made m steps [] is = refl
spread_made m steps (n ∷ numbers) is =
    let one : lists.get_or steps n [] ≡ (lists.get_or m.steps n none_made).step = ap (λ ss. lists.get_or ss n []) is ∙ lists.get_or-map (λ (x : MadeStep). x.step) m.steps n none_made in
    λ i. one i ∷ spread_made m steps numbers is i

pub numbers_are : (m : InternedView) (steps : List Step) (numbers : List ℕ) → steps ≡ map (λ x. x.step) m.steps → All (λ n. n < length m.steps) numbers → AreNumbers steps numbers
numbers_are m steps numbers is are = λ k d within. let low : get_or numbers k d < length m.steps = are k d within in omega (arith, low, ap length is, length-map m.steps (λ (x : MadeStep). x.step))

-- steps that lead to the last layer are those of a graph
steps_made : (b : BuildingView) (w : List Event) (g : GraphView) (steps : List Step) → Lead (edges_under b.table.entries b.rules) (piece_bytes b.table.entries) (units_of b.rules.spell w) first_layer steps (states_of b.table b.last) → AreNamed b.table.entries steps
    → AreLow steps → g.source ≡ record { tree = w; table = b.table; rules = b.rules.spell; format = b.rules.format } → g.steps ≡ steps → g.last ≡ length b.last → IsGraph g
steps_made b w g steps lead named low source same last =
    let us : List Unit = units_of b.rules.spell w in
    let fits : StepsFit (edges_under b.table.entries b.rules) (piece_bytes b.table.entries) us first_layer steps (length (states_of b.table b.last)) =
    lead_fits (edges_under b.table.entries b.rules) (piece_bytes b.table.entries) us first_layer steps (states_of b.table b.last) lead in
    let count : length (states_of b.table b.last) ≡ g.last = length-map b.last (state_of b.table) ∙ sym last in
    record {
      fits = subst (λ A. A) (λ i. StepsFit (source_edges (sym source i)) (piece_bytes (sym source i).table.entries) (units_of (sym source i).rules (sym source i).tree) first_layer (sym same i) (count i)) fits;
      named = subst (λ A. A) (λ i. AreNamed (sym source i).table.entries (sym same i)) named;
      low = subst AreLow (sym same) low;
    }

pub are_recorded : (m : InternedView) (numbers : Option (List ℕ)) (steps : List Step) → recorded_at m numbers ≡ Some steps → IsSome numbers
are_recorded m None steps is = absurd (cc)
are_recorded m (Some numbers) steps is = refl

some_same : {A : Type 0} (x y : A) → Some x ≡ Some y → x ≡ y
some_same x y e = ap (λ o. unwrap_or o x) e

pub graph_made : (b : BuildingView) (w : List Event) (g : GraphView) → IsBuilt b (units_of b.rules.spell w) → g.source ≡ record { tree = w; table = b.table; rules = b.rules.spell; format = b.rules.format } → Some g.steps ≡ b.recorded → g.last ≡ length b.last → IsGraph g
graph_made b w g built source steps last = steps_made b w g built.steps built.lead built.named built.low source (some_same g.steps built.steps (steps ∙ built.recorded)) last

-- ---- After all steps

-- where no step was there at the begin, those that were added are all
pub all_built : (b : BuildingView) (e : BuildingView) (us : List Unit) (added : List Step) → IsBegun b → b.recorded ≡ Some [] → AddsSteps b e us added → IsBuilt e us
all_built b e us added begun none adds = record {
  steps = added;
  lead = subst (λ A. A) (λ i. Lead (edges_under (sym adds.table i).entries (sym adds.rules i)) (piece_bytes (sym adds.table i).entries) us first_layer added (states_of (sym adds.table i) e.last))
      (subst (λ s. Lead (edges_under b.table.entries b.rules) (piece_bytes b.table.entries) us s added (states_of b.table e.last)) begun.last adds.lead);
  named = subst (λ v. AreNamed v.entries added) (sym adds.table) adds.named;
  low = adds.low;
  recorded = adds.recorded ∙ ap (λ r. more_steps r added) none;
}

all_units : (done us : List Unit) → done ++ [] ≡ us → done ≡ us
all_units done us whole = sym (append-nil done) ∙ whole

pub goes_all : {V : Type 0} (C : V → List Entry → List Unit → List Step → V → Type 0) (us : List Unit) (a b : Along V) → IsBegun a.graph → a.graph.recorded ≡ Some [] → Goes C us [] a b → IsBuilt b.graph us
goes_all C us a b begun none goes = subst (IsBuilt b.graph) (all_units goes.done us goes.whole) (all_built a.graph b.graph goes.done goes.added begun none goes.adds)

pub goes_to_end : {V : Type 0} (C : V → List Entry → List Unit → List Step → V → Type 0) (v : TableView) (us : List Unit) (steps : List Step) (a b : Along V) → a.graph.table ≡ v → a.graph.recorded ≡ Some [] → Goes C us [] a b → Some steps ≡ b.graph.recorded
    → (end : V) → C end v.entries [] [] b.by → C end v.entries us steps a.by
goes_to_end C v us steps a b table none goes same end h =
    let all : goes.added ≡ steps = sym (some_same steps goes.added (same ∙ goes.adds.recorded ∙ ap (λ r. more_steps r goes.added) none)) in
    subst (λ A. A) (λ i. C end (table i).entries (append-nil us i) ((append-nil goes.added ∙ all) i) a.by) (goes.on end [] [] (subst (λ x. C end x.entries [] [] b.by) (sym table) h))

pub walk_ended : {V : Type 0} (C : V → List Entry → List Unit → List Step → V → Type 0) (source : GraphSource) (a b : Along V) (walked : Walked) → IsBegun a.graph → source.table ≡ a.graph.table → a.graph.rules ≡ record { spell = source.rules; format = source.format }
    → Goes C (units_of source.rules source.tree) [] a b → walked.len ≡ b.graph.len → walked.last ≡ length b.graph.last → b.graph.len < 2 ^ 29 → IsWalk C source a.by walked b.by
walk_ended C source a b walked begun table rules goes len last few =
    let us : List Unit = units_of source.rules source.tree in
    let all : goes.done ≡ us = all_units goes.done us goes.whole in
    let lead : Lead (edges_under a.graph.table.entries a.graph.rules) (piece_bytes a.graph.table.entries) us first_layer goes.added (states_of a.graph.table b.graph.last) =
    subst (λ A. A) (λ i. Lead (edges_under a.graph.table.entries a.graph.rules) (piece_bytes a.graph.table.entries) (all i) (begun.last i) goes.added (states_of a.graph.table b.graph.last)) goes.adds.lead in
    let begin : BuildingView = record { table = a.graph.table; rules = a.graph.rules; made = b.graph.made; recorded = b.graph.recorded; len = b.graph.len; last = b.graph.last } in
    let own : Lead (edges_under begin.table.entries begin.rules) (piece_bytes begin.table.entries) (units_of begin.rules.spell source.tree) first_layer goes.added (states_of begin.table begin.last) =
    subst (λ r. Lead (edges_under begin.table.entries begin.rules) (piece_bytes begin.table.entries) (units_of r.spell source.tree) first_layer goes.added (states_of begin.table begin.last)) (sym rules) lead in
    let count : walked.len ≡ length goes.added = omega (arith, len, goes.adds.len, begun.len) in
    record {
      steps = goes.added;
      graph =
          steps_made begin source.tree (record { source = source; steps = goes.added; runs = []; last = walked.last }) goes.added own goes.adds.named goes.adds.low
          (λ i. record { tree = source.tree; table = table i; rules = (sym rules i).spell; format = (sym rules i).format }) refl last;
      len = count;
      few = omega (arith, count, len, few);
      on = λ end h.
          subst (λ A. A) (λ i. C end (sym table i).entries (append-nil us i) (append-nil goes.added i) a.by)
          (goes.on end [] [] (subst (λ v. C end v.entries [] [] b.by) table h));
    }
