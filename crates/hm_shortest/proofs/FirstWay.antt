-- The first way, step by step.
use Rattle.std.proofs.Common.{◌≡◌, ◌∙◌, ℕ, zero, suc, ◌+◌, ◌<◌, Bool, true, false, cond, List, [], ◌∷◌, ◌++◌, length, map, get_or, drop, drop-cons, add-one, Option, Some, None, option_and_then, slice_get, refl, sym, ap, append-nil}
use Rattle.std.specs.Option.{IfSome}
use Rattle.std.proofs.lemmas.List.{get_or-map}
use Rattle.hm_edges.specs.declared.pieces.Piece.{Piece}
use Rattle.hm_edges.specs.Pieces.{HasName, own_bytes, piece_bytes, piece_text}
use Rattle.hm_graph_laws.specs.Prices.{Row}
use Rattle.hm_graph_laws.specs.Ways.{lesser, same_price}
use Rattle.hm_graph.proofs.Named.{named_hops}
use Rattle.hm_graph.specs.Graphs.{GraphView, AreNamedHops, IsNamedStep}
use Rattle.hm_refs.specs.Names.{Entry}
use Rattle.hm_graph.specs.Prices.{price_over}
use Rattle.hm_graph.specs.Steps.{Step, is_forced}
use Rattle.hm_graph.specs.Ways.{along, choice, hop_taken, step_choices, way_from}
use Rattle.hm_graph.specs.declared.hops.Hop.{Hop}
use Rattle.hm_graph_laws.specs.Units.{Unit}
use Rattle.hm_shortest.specs.Paths.{onward, row_after, way_on, whole_text}
use Rattle.hm_shortest.specs.declared.paths.WrittenWay.{WrittenWay}
use Rattle.hm_shortest.proofs.Prices.{same_self}

-- ---- The hop that is taken

pub lesser_none : (price : Option ℕ) → lesser price None ≡ price
lesser_none None = refl
lesser_none (Some n) = refl

-- where each state has one hop, it is taken
pub forced_choice : (next_row : Row) (step : Step) (place : ℕ) → is_forced step ≡ true → 0 ≡ choice next_row (get_or step place [])
forced_choice next_row [] place h = refl
forced_choice next_row ([] ∷ step) place h = absurd (cc)
forced_choice next_row ((x ∷ y ∷ hops) ∷ step) place h = absurd (cc)
forced_choice next_row ((x ∷ []) ∷ step) zero h = sym (ap (λ b. cond b 0 1) (ap (same_price (price_over next_row x)) (lesser_none (price_over next_row x)) ∙ same_self (price_over next_row x)))
forced_choice next_row ((x ∷ []) ∷ step) (suc place) h = forced_choice next_row step place h

-- and nothing is chosen
pub forced_none : (next_row : Row) (step : Step) → is_forced step ≡ true → step_choices next_row step ≡ []
forced_none next_row step h = ap (λ b. cond b [] (map (choice next_row) step)) h

choice_is : (next_row : Row) (step : Step) (choices : List ℕ) (place : ℕ) → place < length step → choices ≡ step_choices next_row step → get_or choices place 0 ≡ choice next_row (get_or step place [])
choice_is next_row step choices place inside is = by_test (is_forced step) refl is
  where
    by_test : (b : Bool) → is_forced step ≡ b → choices ≡ cond b [] (map (choice next_row) step) → get_or choices place 0 ≡ choice next_row (get_or step place [])
    by_test true forced e = ap (λ x. get_or x place 0) e ∙ forced_choice next_row step place forced
    by_test false forced e = ap (λ x. get_or x place 0) e ∙ get_or-map (choice next_row) step place [] 0 inside

pub taken_is : (next_row : Row) (step : Step) (choices : List ℕ) (place : ℕ) → place < length step → choices ≡ step_choices next_row step
    → slice_get (get_or step place []) (get_or choices place 0) ≡ hop_taken next_row step place
taken_is next_row step choices place inside is = ap (slice_get (get_or step place [])) (choice_is next_row step choices place inside is)

named_hop : (t : List Entry) (hops : List Hop) (k : ℕ) → AreNamedHops t hops → IfSome (slice_get hops k) (λ hop. HasName t hop.piece)
named_hop t [] k h = tt
named_hop t (x ∷ hops) zero h = h.0
named_hop t (x ∷ hops) (suc k) h = named_hop t hops k h.1

pub taken_named : (t : List Entry) (step : Step) (place k : ℕ) → IsNamedStep t step → IfSome (slice_get (get_or step place []) k) (λ hop. HasName t hop.piece)
taken_named t step place k h = named_hop t (get_or step place []) k (named_hops t step place h)

-- ---- One step

pub step_next : (steps : List Step) (k : ℕ) → k < length steps → drop k steps ≡ get_or steps k [] ∷ drop (k + 1) steps
step_next steps k inside = rw add-one (drop-cons steps k [] inside)

pub way_next : (g : GraphView) (u : Unit) (units : List Unit) (k : ℕ) (place : Option ℕ) → k < length g.steps
    → way_on g (u ∷ units) k place
    ≡ along (piece_bytes g.source.table.entries u) (way_from (piece_bytes g.source.table.entries) g.last units (drop (k + 1) g.steps)) (option_and_then (hop_taken (row_after g k) (get_or g.steps k [])) place)
way_next g u units k None inside = refl
way_next g u units k (Some place) inside = ap (λ steps. way_from (piece_bytes g.source.table.entries) g.last (u ∷ units) steps place) (step_next g.steps k inside)

-- the way over one unit
pub text_one : (g : GraphView) (u : Unit) (own : List ℕ) (hop : Option Hop) (old new : WrittenWay) → old.at.layer < length g.steps → new.at.layer ≡ old.at.layer + 1 → own_bytes u ≡ own
    → hop ≡ option_and_then (hop_taken (row_after g old.at.layer) (get_or g.steps old.at.layer [])) old.place
    → ((more : ℕ → List ℕ) → new.out.items ++ onward more new.place ≡ old.out.items ++ along (piece_text g.source.table.entries own) more hop) → (units : List Unit) → whole_text g (u ∷ units) old ≡ whole_text g units new
text_one g u own hop old new inside next is taken put units =
    let t : List Entry = g.source.table.entries in
    let more : ℕ → List ℕ = way_from (piece_bytes t) g.last units (drop (old.at.layer + 1) g.steps) in
    ap (λ x. old.out.items ++ x) (way_next g u units old.at.layer old.place inside)
    ∙ sym (λ i. old.out.items ++ along (piece_text t (sym is i)) more (taken i))
    ∙ sym (put more)
    ∙ ap (λ k. new.out.items ++ way_on g units k new.place) (sym next)

-- ---- The whole way

way_ends : (bytes : Unit → Piece → List ℕ) (last : ℕ) (steps : List Step) (place : ℕ) → way_from bytes last [] steps place ≡ []
way_ends bytes last [] place = refl
way_ends bytes last (step ∷ steps) place = refl

onward_ends : (more : ℕ → List ℕ) (place : Option ℕ) → ((k : ℕ) → more k ≡ []) → onward more place ≡ []
onward_ends more None h = refl
onward_ends more (Some k) h = h k

-- after the last unit nothing is left of it
pub text_last : (g : GraphView) (way : WrittenWay) → whole_text g [] way ≡ way.out.items
text_last g way =
    let bytes : Unit → Piece → List ℕ = piece_bytes g.source.table.entries in
    ap (λ x. way.out.items ++ x) (onward_ends (way_from bytes g.last [] (drop way.at.layer g.steps)) way.place (way_ends bytes g.last (drop way.at.layer g.steps))) ∙ append-nil way.out.items
