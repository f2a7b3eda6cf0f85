-- Hops and steps that are made one after the other.
use Rattle.std.proofs.Common.{◌≡◌, ◌∙◌, ℕ, ◌<◌, ◌^◌, List, [], ◌∷◌, ◌++◌, length, refl, sym, ap, subst}
use Rattle.std.proofs.lemmas.List.{map-append}
use Rattle.hm_graph.specs.declared.rules.EdgeRules.{EdgeRules}
use Rattle.hm_graph_laws.specs.Layers.{with_ends, with_layer, with_state}
use Rattle.hm_graph_laws.specs.Ways.{Edges}
use Rattle.hm_refs.specs.Names.{Entry}
use Rattle.hm_refs.specs.Tables.{TableView}
use Rattle.hm_graph_laws.specs.Edges as graph
use Rattle.hm_graph_laws.specs.States as states
use Rattle.hm_graph_laws.specs.Units as units
use Rattle.hm_edges.specs.Pieces.{HasName, IsOfTable, edge_of, edges_seen, piece_bytes}
use Rattle.hm_edges.specs.States.{state_of}
use Rattle.hm_edges.specs.Units.{StandsFor}
use Rattle.hm_edges.specs.declared.pieces.Edge.{Edge}
use Rattle.hm_edges.specs.declared.pieces.Piece.{Piece}
use Rattle.hm_edges.specs.declared.states.State.{State}
use Rattle.hm_edges.specs.declared.units.Unit.{Unit}
use Rattle.hm_graph.specs.Fits.{HopFits, HopsFit, StepFits}
use Rattle.hm_graph.specs.Steps.{Step}
use Rattle.hm_graph.specs.declared.hops.Hop.{Hop}
use Rattle.hm_graph.specs.Graphs.{AreLowHops, AreNamedHops, IsLowStep, IsNamedStep}
use Rattle.hm_graph.specs.Layers.{edges_under, AreEdgesUnder, states_of, IsPlaced, IsHop, AreHops, IsLayer}
use Rattle.hm_graph.proofs.Placed.{Keeps, state_keeps, ends_keep, ends_more, layer_more}

pub hop_made : (v : TableView) (unit : Unit) (e : Edge) (before now : List State) (len n : ℕ) → IsOfTable v e → ((u : units.Unit) → StandsFor v.entries unit u → len ≡ length (piece_bytes v.entries u e.piece))
    → len < 2 ^ 33 → IsPlaced v e.to before now n → IsHop v unit e before now (record { piece = e.piece; len = len; to = n })
hop_made v unit e before now len n own is low placed =
    record { fits = λ u stands. record { writes = refl; len = is u stands; to = placed.place }; states = placed.states; nodes = placed.nodes; low = low; named = own.name }

-- ---- After more states

hop_keeps : (bytes : Piece → List ℕ) (before now : List states.State) (e : graph.Edge) (h : Hop) → Keeps before now → HopFits bytes before e h → HopFits bytes now e h
hop_keeps bytes before now e h keeps fits = record { writes = fits.writes; len = fits.len; to = keeps e.to h.to fits.to }

hops_keep : (bytes : Piece → List ℕ) (before now : List states.State) (es : List graph.Edge) (hops : List Hop) → Keeps before now → HopsFit bytes before es hops → HopsFit bytes now es hops
hops_keep bytes before now [] [] keeps fit = tt
hops_keep bytes before now [] (h ∷ hops) keeps fit = absurd fit
hops_keep bytes before now (e ∷ es) [] keeps fit = absurd fit
hops_keep bytes before now (e ∷ es) (h ∷ hops) keeps fit = (hop_keeps bytes before now e h keeps fit.0, hops_keep bytes before now es hops keeps fit.1)

step_keeps : (bytes : Piece → List ℕ) (edges : states.State → List graph.Edge) (before now : List states.State) (from : List states.State) (step : Step) → Keeps before now → StepFits bytes edges before from step → StepFits bytes edges now from step
step_keeps bytes edges before now [] [] keeps fits = tt
step_keeps bytes edges before now [] (hops ∷ step) keeps fits = absurd fits
step_keeps bytes edges before now (s ∷ from) [] keeps fits = absurd fits
step_keeps bytes edges before now (s ∷ from) (hops ∷ step) keeps fits = (hops_keep bytes before now (edges s) hops keeps fits.0, step_keeps bytes edges before now from step keeps fits.1)

-- ---- One more

one_hop : (bytes : Piece → List ℕ) (after : List states.State) (es : List graph.Edge) (hops : List Hop) (e : graph.Edge) (h : Hop) → HopsFit bytes after es hops → HopFits bytes after e h → HopsFit bytes after (es ++ e ∷ []) (hops ++ h ∷ [])
one_hop bytes after [] [] e h fit own = (own, tt)
one_hop bytes after [] (x ∷ hops) e h fit own = absurd fit
one_hop bytes after (d ∷ es) [] e h fit own = absurd fit
one_hop bytes after (d ∷ es) (x ∷ hops) e h fit own = (fit.0, one_hop bytes after es hops e h fit.1 own)

one_state : (bytes : Piece → List ℕ) (edges : states.State → List graph.Edge) (after : List states.State) (from : List states.State) (step : Step) (s : states.State) (hops : List Hop)
    → StepFits bytes edges after from step → HopsFit bytes after (edges s) hops → StepFits bytes edges after (from ++ s ∷ []) (step ++ hops ∷ [])
one_state bytes edges after [] [] s hops fits own = (own, tt)
one_state bytes edges after [] (x ∷ step) s hops fits own = absurd fits
one_state bytes edges after (t ∷ from) [] s hops fits own = absurd fits
one_state bytes edges after (t ∷ from) (x ∷ step) s hops fits own = (fits.0, one_state bytes edges after from step s hops fits.1 own)

one_low : (hops : List Hop) (h : Hop) → AreLowHops hops → h.len < 2 ^ 33 → AreLowHops (hops ++ h ∷ [])
one_low [] h low own = (own, tt)
one_low (x ∷ hops) h low own = (low.0, one_low hops h low.1 own)

one_named : (t : List Entry) (hops : List Hop) (h : Hop) → AreNamedHops t hops → HasName t h.piece → AreNamedHops t (hops ++ h ∷ [])
one_named t [] h named own = (own, tt)
one_named t (x ∷ hops) h named own = (named.0, one_named t hops h named.1 own)

step_low : (step : Step) (hops : List Hop) → IsLowStep step → AreLowHops hops → IsLowStep (step ++ hops ∷ [])
step_low [] hops low own = (own, tt)
step_low (x ∷ step) hops low own = (low.0, step_low step hops low.1 own)

step_named : (t : List Entry) (step : Step) (hops : List Hop) → IsNamedStep t step → AreNamedHops t hops → IsNamedStep t (step ++ hops ∷ [])
step_named t [] hops named own = (own, tt)
step_named t (x ∷ step) hops named own = (named.0, step_named t step hops named.1 own)

pub hops_more : (v : TableView) (unit : Unit) (es : List Edge) (e : Edge) (before between now : List State) (hops : List Hop) (h : Hop)
    → AreHops v unit es before between hops → IsHop v unit e between now h → AreHops v unit (es ++ e ∷ []) before now (hops ++ h ∷ [])
hops_more v unit es e before between now hops h are is =
    let keeps : Keeps (states_of v between) (states_of v now) = subst (Keeps (states_of v between)) (sym is.states) (state_keeps (states_of v between) (state_of v e.to)) in
    record {
      fit = λ u stands.
          subst (λ seen. HopsFit (piece_bytes v.entries u) (states_of v now) seen (hops ++ h ∷ [])) (sym (map-append (edge_of v u) es (e ∷ [])))
          (one_hop (piece_bytes v.entries u) (states_of v now) (edges_seen v u es) hops (edge_of v u e) h (hops_keep (piece_bytes v.entries u) (states_of v between) (states_of v now) (edges_seen v u es) hops keeps (are.fit u stands)) (is.fits u stands));
      states = λ u.
          is.states ∙ ap (λ ends. with_state ends (state_of v e.to)) (are.states u) ∙ sym (ends_more (states_of v before) (edges_seen v u es) (edge_of v u e))
          ∙ ap (with_ends (states_of v before)) (sym (map-append (edge_of v u) es (e ∷ [])));
      nodes = is.nodes;
      low = one_low hops h are.low is.low;
      named = one_named v.entries hops h are.named is.named;
    }

pub layer_next : (v : TableView) (rules : EdgeRules) (unit : Unit) (from after now : List State) (s : State) (es : List Edge) (step : Step) (hops : List Hop)
    → IsLayer v rules unit from after step → AreEdgesUnder v rules unit s es → AreHops v unit es after now hops → IsLayer v rules unit (from ++ s ∷ []) now (step ++ hops ∷ [])
layer_next v rules unit from after now s es step hops is edges are =
    record {
      fits = λ u stands.
          let own : states.State → List graph.Edge = edges_under v.entries rules u in
          let keeps : Keeps (states_of v after) (states_of v now) = subst (Keeps (states_of v after)) (sym (are.states u)) (ends_keep (states_of v after) (edges_seen v u es)) in
          let fit : HopsFit (piece_bytes v.entries u) (states_of v now) (own (state_of v s)) hops = subst (λ seen. HopsFit (piece_bytes v.entries u) (states_of v now) seen hops) (edges u stands) (are.fit u stands) in
          subst (λ ss. StepFits (piece_bytes v.entries u) own (states_of v now) ss (step ++ hops ∷ [])) (sym (map-append (state_of v) from (s ∷ [])))
          (one_state (piece_bytes v.entries u) own (states_of v now) (states_of v from) step (state_of v s) hops (step_keeps (piece_bytes v.entries u) own (states_of v after) (states_of v now) (states_of v from) step keeps (is.fits u stands)) fit);
      states = λ u stands.
          let all : Edges = edges_under v.entries rules in
          are.states u ∙ ap (with_ends (states_of v after)) (edges u stands) ∙ ap (λ ends. with_ends ends (all u (state_of v s))) (is.states u stands)
          ∙ sym (layer_more all [] u (states_of v from) (state_of v s)) ∙ ap (with_layer all [] u) (sym (map-append (state_of v) from (s ∷ [])));
      nodes = are.nodes;
      low = step_low step hops is.low are.low;
      named = step_named v.entries step hops is.named are.named;
    }
