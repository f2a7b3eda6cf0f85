-- Rows that are written, and what they stand for, are those of the graph.
use Rattle.std.proofs.Common.{◌≡◌, ℕ, suc, not, ◌&&◌, ◌==◌, List, [], ◌∷◌, length, Option, Some, None, cond, refl, ap, ◌∙◌}
use Rattle.std.specs.List.{list_all}
use Rattle.hm_base.specs.declared.plain.Format.{Format}
use Rattle.hm_base.specs.declared.plain.Format.TheVariants.{Full, Compact, Sparse}
use Rattle.hm_graph_laws.specs.Edges.{Edge}
use Rattle.hm_graph_laws.specs.States.{State}
use Rattle.hm_graph_laws.specs.Units.{Unit}
use Rattle.hm_edges.specs.declared.pieces.Piece.{Piece}
use Rattle.hm_graph_laws.specs.Layers.{states_after, is_single}
use Rattle.hm_graph_laws.specs.Prices as graph
use Rattle.hm_graph_laws.specs.Prices.{Row, with_row, full_from, price_at}
use Rattle.hm_graph_laws.specs.Ways.{Edges}
use Rattle.hm_graph.specs.Fits.{HopsFit, StepFits, StepsFit}
use Rattle.hm_optimality_laws.specs.Formats.{follows_by}
use Rattle.hm_graph.specs.Prices.{is_left_out, written_rows, followed_by, full_rows}
use Rattle.hm_graph.specs.Steps.{Step, is_forced}
use Rattle.hm_graph.specs.declared.hops.Hop.{Hop}
use Rattle.hm_graph.proofs.StepPlaces.{tells_price}
use Rattle.hm_graph.proofs.Rows.{row_agrees}

single_hops : (bytes : Piece → List ℕ) (after : List State) (edges : List Edge) (hops : List Hop) → HopsFit bytes after edges hops → is_single hops ≡ is_single edges
single_hops bytes after [] [] h = refl
single_hops bytes after [] (x ∷ hops) h = absurd h
single_hops bytes after (e ∷ edges) [] h = absurd h
single_hops bytes after (e ∷ []) (x ∷ []) h = refl
single_hops bytes after (e ∷ []) (x ∷ y ∷ hops) h = absurd h.1
single_hops bytes after (e ∷ d ∷ edges) (x ∷ []) h = absurd h.1
single_hops bytes after (e ∷ d ∷ edges) (x ∷ y ∷ hops) h = refl

single_states : (bytes : Piece → List ℕ) (after : List State) (edges : State → List Edge) (states : List State) (step : Step) → StepFits bytes edges after states step
    → is_single step ≡ is_single states
single_states bytes after edges [] [] h = refl
single_states bytes after edges [] (hops ∷ step) h = absurd h
single_states bytes after edges (s ∷ states) [] h = absurd h
single_states bytes after edges (s ∷ []) (hops ∷ []) h = refl
single_states bytes after edges (s ∷ []) (hops ∷ more ∷ step) h = absurd h.1
single_states bytes after edges (s ∷ t ∷ states) (hops ∷ []) h = absurd h.1
single_states bytes after edges (s ∷ t ∷ states) (hops ∷ more ∷ step) h = refl

forced_agrees : (bytes : Piece → List ℕ) (after : List State) (edges : State → List Edge) (states : List State) (step : Step) → StepFits bytes edges after states step
    → is_forced step ≡ list_all (λ s. is_single (edges s)) states
forced_agrees bytes after edges [] [] h = refl
forced_agrees bytes after edges [] (hops ∷ step) h = absurd h
forced_agrees bytes after edges (s ∷ states) [] h = absurd h
forced_agrees bytes after edges (s ∷ states) (hops ∷ step) h = λ i. single_hops bytes after (edges s) hops h.0 i && forced_agrees bytes after edges states step h.1 i

pub width_agrees : (bytes : Piece → List ℕ) (after : List State) (edges : State → List Edge) (states : List State) (step : Step) → StepFits bytes edges after states step → length step ≡ length states
width_agrees bytes after edges [] [] h = refl
width_agrees bytes after edges [] (hops ∷ step) h = absurd h
width_agrees bytes after edges (s ∷ states) [] h = absurd h
width_agrees bytes after edges (s ∷ states) (hops ∷ step) h = λ i. suc (width_agrees bytes after edges states step h.1 i)

-- a layer is left out by its step where it is by its unit and states
pub left_out_agrees : (edges : Edges) (bytes : Piece → List ℕ) (after : List State) (format : Format) (k : ℕ) (unit : Unit) (states : List State) (step : Step)
    → StepFits bytes (edges unit) after states step → is_left_out format k step ≡ (not (k == 0) && follows_by format edges unit states)
left_out_agrees edges bytes after Full k unit states step h = refl
left_out_agrees edges bytes after Compact k unit states step h =
    λ i. not (k == 0) && (single_states bytes after (edges unit) states step h i && forced_agrees bytes after (edges unit) states step h i)
left_out_agrees edges bytes after Sparse k unit states step h = λ i. not (k == 0) && forced_agrees bytes after (edges unit) states step h i

pub written_agrees : (edges : Edges) (bytes : Unit → Piece → List ℕ) (units : List Unit) (states : List State) (steps : List Step) (last : ℕ) (format : Format) (k : ℕ) (rows : List Row)
    → StepsFit edges bytes units states steps last → written_rows format k steps rows ≡ graph.written_rows edges (follows_by format edges) k units states rows
written_agrees edges bytes units states steps last format k [] h = refl
written_agrees edges bytes [] states [] last format k (row ∷ rows) h = refl
written_agrees edges bytes [] states (step ∷ steps) last format k (row ∷ rows) h = absurd h
written_agrees edges bytes (unit ∷ units) states [] last format k (row ∷ rows) h = absurd h
written_agrees edges bytes (unit ∷ units) states (step ∷ steps) last format k (row ∷ rows) h =
    let next : List State = states_after edges unit states in
    let more : written_rows format (suc k) steps rows ≡ graph.written_rows edges (follows_by format edges) (suc k) units next rows = written_agrees edges bytes units next steps last format (suc k) rows h.1 in
    λ i. cond (left_out_agrees edges (bytes unit) next format k unit states step h.0 i) (more i) (row ∷ more i)

followed_agrees : (edges : Edges) (bytes : Piece → List ℕ) (unit : Unit) (states : List State) (step : Step) (rows : Option (List Row)) → StepFits bytes (edges unit) (states_after edges unit states) states step
    → followed_by step rows ≡ graph.followed_by edges unit states rows
followed_agrees edges bytes unit states step None h = refl
followed_agrees edges bytes unit states step (Some []) h = refl
followed_agrees edges bytes unit states step (Some (next ∷ rows)) h =
    let after : List State = states_after edges unit states in
    λ i. Some (row_agrees bytes after next (price_at after next) (edges unit) states step (tells_price after next) h i ∷ next ∷ rows)

pub full_agrees : (edges : Edges) (bytes : Unit → Piece → List ℕ) (units : List Unit) (states : List State) (steps : List Step) (last : ℕ) (format : Format) (k : ℕ) (rows : List Row)
    → StepsFit edges bytes units states steps last → full_rows format k last steps rows ≡ full_from edges (follows_by format edges) k units states rows
full_agrees edges bytes [] states [] last format k [] h = refl
full_agrees edges bytes [] states [] last format k (row ∷ []) h = λ i. cond (length row == h i) (Some (row ∷ [])) None
full_agrees edges bytes [] states [] last format k (row ∷ more ∷ rows) h = refl
full_agrees edges bytes [] states (step ∷ steps) last format k rows h = absurd h
full_agrees edges bytes (unit ∷ units) states [] last format k rows h = absurd h
full_agrees edges bytes (unit ∷ units) states (step ∷ steps) last format k [] h = refl
full_agrees edges bytes (unit ∷ units) states (step ∷ steps) last format k (row ∷ rows) h =
    let next : List State = states_after edges unit states in
    let follows : full_rows format (suc k) last steps (row ∷ rows) ≡ full_from edges (follows_by format edges) (suc k) units next (row ∷ rows) = full_agrees edges bytes units next steps last format (suc k) (row ∷ rows) h.1 in
    let more : full_rows format (suc k) last steps rows ≡ full_from edges (follows_by format edges) (suc k) units next rows = full_agrees edges bytes units next steps last format (suc k) rows h.1 in
    let followed : followed_by step (full_rows format (suc k) last steps (row ∷ rows)) ≡ graph.followed_by edges unit states (full_from edges (follows_by format edges) (suc k) units next (row ∷ rows)) =
    ap (followed_by step) follows ∙ followed_agrees edges (bytes unit) unit states step (full_from edges (follows_by format edges) (suc k) units next (row ∷ rows)) h.0 in
    λ i. cond (left_out_agrees edges (bytes unit) next format k unit states step h.0 i) (followed i)
    (cond (length row == width_agrees (bytes unit) next (edges unit) states step h.0 i) (with_row row (more i)) None)
