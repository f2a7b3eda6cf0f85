-- Steps that are added one after the other lead on, unit by unit.
use Rattle.std.proofs.Common.{◌≡◌, ◌∙◌, ℕ, suc, zero, ◌+◌, ◌<◌, ◌^◌, List, [], ◌∷◌, ◌++◌, length, get_or, Option, Some, None, refl, sym, ap, subst, arith, append_assoc, append-nil, length-append}
use Rattle.std.proofs.Math.ListN.{replicate}
use Rattle.std.proofs.lemmas.List.{map-append, get_or-replicate, length-replicate}
use Rattle.std.proofs.lemmas.List.Elements.{All-append}
use Rattle.std.specs.List.{All}
use Rattle.hm_graph_laws.specs.Layers.{states_after}
use Rattle.hm_graph_laws.specs.Ways.{Edges}
use Rattle.hm_refs.specs.Names.{Entry}
use Rattle.hm_graph_laws.specs.States as graph
use Rattle.hm_graph_laws.specs.Units as units
use Rattle.hm_edges.specs.Pieces.{piece_bytes}
use Rattle.hm_edges.specs.Units.{StandsFor}
use Rattle.hm_edges.specs.declared.pieces.Piece.{Piece}
use Rattle.hm_edges.specs.declared.units.Unit.{Unit}
use Rattle.hm_graph.specs.Fits.{StepFits, StepsFit}
use Rattle.hm_graph.specs.Steps.{Step}
use Rattle.hm_graph.specs.Graphs.{AreLow, IsNamedStep, AreNamed}
use Rattle.hm_graph.specs.Layers.{edges_under, states_of}
use Rattle.hm_graph.specs.Interned.{InternedView, list_at, made_at, Grows, IsStepOf, IsListOf}
use Rattle.hm_graph.specs.Building.{AddsSteps, AreThere, BuildingView, IsBuilding, IsFew, IsMade, Lead, building, more_numbers, more_steps, recorded_at, steps_at}

-- ---- Leading on

lead_one : (edges : Edges) (bytes : units.Unit → Piece → List ℕ) (u : units.Unit) (states : List graph.State) (step : Step) (now : List graph.State)
    → StepFits (bytes u) (edges u) now states step → now ≡ states_after edges u states → Lead edges bytes (u ∷ []) states (step ∷ []) now
lead_one edges bytes u states step now fits after = (subst (λ b. StepFits (bytes u) (edges u) b states step) after fits, sym after)

lead_on : (edges : Edges) (bytes : units.Unit → Piece → List ℕ) (us vs : List units.Unit) (states : List graph.State) (steps more : List Step) (mid after : List graph.State)
    → Lead edges bytes us states steps mid → Lead edges bytes vs mid more after → Lead edges bytes (us ++ vs) states (steps ++ more) after
lead_on edges bytes [] vs states [] more mid after lead on = subst (λ s. Lead edges bytes vs s more after) (sym lead) on
lead_on edges bytes [] vs states (x ∷ steps) more mid after lead on = absurd lead
lead_on edges bytes (u ∷ us) vs states [] more mid after lead on = absurd lead
lead_on edges bytes (u ∷ us) vs states (x ∷ steps) more mid after lead on = (lead.0, lead_on edges bytes us vs (states_after edges u states) steps more mid after lead.1 on)

pub lead_fits : (edges : Edges) (bytes : units.Unit → Piece → List ℕ) (us : List units.Unit) (states : List graph.State) (steps : List Step) (after : List graph.State)
    → Lead edges bytes us states steps after → StepsFit edges bytes us states steps (length after)
lead_fits edges bytes [] states [] after lead = sym (ap length lead)
lead_fits edges bytes [] states (x ∷ steps) after lead = absurd lead
lead_fits edges bytes (v ∷ us) states [] after lead = absurd lead
lead_fits edges bytes (v ∷ us) states (x ∷ steps) after lead = (lead.0, lead_fits edges bytes us (states_after edges v states) steps after lead.1)

low_on : (steps more : List Step) → AreLow steps → AreLow more → AreLow (steps ++ more)
low_on [] more low on = on
low_on (x ∷ steps) more low on = (low.0, low_on steps more low.1 on)

named_on : (t : List Entry) (steps more : List Step) → AreNamed t steps → AreNamed t more → AreNamed t (steps ++ more)
named_on t [] more named on = on
named_on t (x ∷ steps) more named on = (named.0, named_on t steps more named.1 on)

-- ---- Steps of numbers

steps_kept : (m n : InternedView) (numbers : List ℕ) → Grows m n → All (λ k. k < length m.steps) numbers → steps_at n numbers ≡ steps_at m numbers
steps_kept m n [] grows are = refl
steps_kept m n (k ∷ numbers) grows are =
    let first : (k < length n.steps) × (made_at n k ≡ made_at m k) = grows.steps k (are 0 0 (omega arith)) in
    λ i. (first.1 i).step ∷ steps_kept m n numbers grows (λ j d within. are (suc j) d (omega arith)) i

numbers_kept : (m n : InternedView) (numbers : List ℕ) → Grows m n → All (λ k. k < length m.steps) numbers → All (λ k. k < length n.steps) numbers
numbers_kept m n numbers grows are = λ j d within. (grows.steps (get_or numbers j d) (are j d within)).0

alike_steps : (m : InternedView) (n count : ℕ) → steps_at m (replicate count n) ≡ replicate count (made_at m n).step
alike_steps m n zero = refl
alike_steps m n (suc count) = ap (λ steps. (made_at m n).step ∷ steps) (alike_steps m n count)

steps_more : (m n : InternedView) (numbers : List ℕ) (count k : ℕ) → Grows m n → All (λ j. j < length m.steps) numbers → steps_at n (numbers ++ replicate count k) ≡ steps_at m numbers ++ replicate count (made_at n k).step
steps_more m n numbers count k grows are =
    map-append (λ j. (made_at n j).step) numbers (replicate count k)
    ∙ ap (λ steps. steps ++ steps_at n (replicate count k)) (steps_kept m n numbers grows are)
    ∙ ap (λ steps. steps_at m numbers ++ steps) (alike_steps n k count)

recorded_more : (m n : InternedView) (numbers : Option (List ℕ)) (len count k : ℕ) → Grows m n → AreThere m numbers len → recorded_at n (more_numbers numbers count k) ≡ more_steps (recorded_at m numbers) (replicate count (made_at n k).step)
recorded_more m n None len count k grows are = refl
recorded_more m n (Some numbers) len count k grows are = ap Some (steps_more m n numbers count k grows are.0)

alike_there : (bound k count : ℕ) → k < bound → All (λ n. n < bound) (replicate count k)
alike_there bound k count low = λ j d within. subst (λ n. n < bound) (sym (get_or-replicate count j k d (omega (arith, within, length-replicate count k)))) low

-- ---- What is built stays built when more steps are made

there_kept : (m n : InternedView) (numbers : Option (List ℕ)) (len : ℕ) → Grows m n → AreThere m numbers len → AreThere n numbers len
there_kept m n None len grows are = tt
there_kept m n (Some numbers) len grows are = (numbers_kept m n numbers grows are.0, are.1)

there_more : (m n : InternedView) (numbers : Option (List ℕ)) (len count k : ℕ) → Grows m n → k < length n.steps → AreThere m numbers len → AreThere n (more_numbers numbers count k) (len + count)
there_more m n None len count k grows there are = tt
there_more m n (Some numbers) len count k grows there are = (
  All-append (λ j. j < length n.steps) numbers (replicate count k) (numbers_kept m n numbers grows are.0) (alike_there (length n.steps) k count there),
  omega (arith, length-append numbers (replicate count k), length-replicate count k, are.1),
)

pub building_kept : (m n : InternedView) (numbers : Option (List ℕ)) (len last : ℕ) → IsBuilding m numbers len last → Grows m n → IsBuilding n numbers len last
building_kept m n numbers len last is grows = record { numbers_there = there_kept m n numbers len grows is.numbers_there; last_there = (grows.lists last is.last_there).there; few = is.few }

pub building_more : (m n : InternedView) (numbers : Option (List ℕ)) (len count last k after : ℕ) → IsBuilding m numbers len last → Grows m n → k < length n.steps → after < length n.lists → len + count < 2 ^ 29
    → IsBuilding n (more_numbers numbers count k) (len + count) after
building_more m n numbers len count last k after is grows there list few = record { numbers_there = there_more m n numbers len count k grows there is.numbers_there; last_there = list; few = few }

-- as many numbers are recorded as there are steps
pub recorded_few : (m : InternedView) (numbers : Option (List ℕ)) (len last count : ℕ) → IsBuilding m numbers len last → len + count < 2 ^ 29 → IsFew numbers count
recorded_few m None len last count is few = tt
recorded_few m (Some numbers) len last count is few = omega (arith, is.numbers_there.1, few)

pub adds_one : (m n : InternedView) (numbers : Option (List ℕ)) (len last : ℕ) (unit : Unit) (k : ℕ) → IsBuilding m numbers len last → Grows m n → IsStepOf n last unit k → (u : units.Unit) → StandsFor m.table.entries unit u
    → AddsSteps (building m numbers len last) (building n (more_numbers numbers 1 k) (len + 1) (made_at n k).after) (u ∷ []) ((made_at n k).step ∷ [])
adds_one m n numbers len last unit k is grows step u stands =
    let edges : Edges = edges_under n.table.entries n.rules in
    let bytes : units.Unit → Piece → List ℕ = piece_bytes n.table.entries in
    let list : IsListOf n (list_at m last) last = grows.lists last is.last_there in
    let own : StandsFor n.table.entries unit u = subst (λ v. StandsFor v.entries unit u) (sym grows.table) stands in
    let one : Lead edges bytes (u ∷ []) (states_of n.table (list_at n last)) ((made_at n k).step ∷ []) (states_of n.table (list_at n (made_at n k).after)) =
    lead_one edges bytes u (states_of n.table (list_at n last)) (made_at n k).step (states_of n.table (list_at n (made_at n k).after)) (step.layer.fits u own) (step.layer.states u own) in
    record {
      table = grows.table;
      rules = grows.rules;
      lead = subst (λ A. A)
          (λ i. Lead (edges_under (grows.table i).entries (grows.rules i)) (piece_bytes (grows.table i).entries) (u ∷ []) (states_of (grows.table i) (list.list i)) ((made_at n k).step ∷ []) (states_of (grows.table i) (list_at n (made_at n k).after)))
          one;
      named = (subst (λ v. IsNamedStep v.entries (made_at n k).step) grows.table step.layer.named, tt);
      low = (step.layer.low, tt);
      recorded = recorded_more m n numbers len 1 k grows is.numbers_there;
      len = refl;
    }

pub made_one : (n : InternedView) (numbers : Option (List ℕ)) (len last after : ℕ) (unit : Unit) (k : ℕ) → IsStepOf n last unit k → IsMade (building n numbers len after) k
made_one n numbers len last after unit k step = record { there = step.there; named = step.layer.named; low = step.layer.low }

-- ---- Adding more and more

none_more : (recorded : Option (List Step)) → recorded ≡ more_steps recorded []
none_more None = refl
none_more (Some steps) = ap Some (sym (append-nil steps))

more_twice : (recorded : Option (List Step)) (steps more : List Step) → more_steps (more_steps recorded steps) more ≡ more_steps recorded (steps ++ more)
more_twice None steps more = refl
more_twice (Some all) steps more = ap Some (append_assoc all steps more)

pub adds_none : (a : BuildingView) → AddsSteps a a [] []
adds_none a = record { table = refl; rules = refl; lead = refl; named = tt; low = tt; recorded = none_more a.recorded; len = omega arith }

pub adds_on : (a b c : BuildingView) (xs ys : List units.Unit) (steps more : List Step) → AddsSteps a b xs steps → AddsSteps b c ys more → AddsSteps a c (xs ++ ys) (steps ++ more)
adds_on a b c xs ys steps more ab bc =
    let on : Lead (edges_under a.table.entries a.rules) (piece_bytes a.table.entries) ys (states_of a.table b.last) more (states_of a.table c.last) =
    subst (λ A. A) (λ i. Lead (edges_under (ab.table i).entries (ab.rules i)) (piece_bytes (ab.table i).entries) ys (states_of (ab.table i) b.last) more (states_of (ab.table i) c.last)) bc.lead in
    record {
      table = bc.table ∙ ab.table;
      rules = bc.rules ∙ ab.rules;
      lead = lead_on (edges_under a.table.entries a.rules) (piece_bytes a.table.entries) xs ys (states_of a.table a.last) steps more (states_of a.table b.last) (states_of a.table c.last) ab.lead on;
      named = named_on a.table.entries steps more ab.named (subst (λ v. AreNamed v.entries more) ab.table bc.named);
      low = low_on steps more ab.low bc.low;
      recorded = bc.recorded ∙ ap (λ r. more_steps r more) ab.recorded ∙ more_twice a.recorded steps more;
      len = omega (arith, ab.len, bc.len, length-append steps more);
    }
