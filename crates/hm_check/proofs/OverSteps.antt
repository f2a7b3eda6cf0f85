-- What is found of rows is the same over the steps of the graph.
use Rattle.std.proofs.Common.{◌≡◌, ℕ, suc, Bool, true, false, not, ◌&&◌, ◌==◌, List, [], ◌∷◌, length, Option, Some, None, cond, refl, ap, ◌∙◌}
use Rattle.hm_base.specs.declared.plain.Format.{Format}
use Rattle.hm_graph_laws.specs.States.{State}
use Rattle.hm_graph_laws.specs.Units.{Unit}
use Rattle.hm_edges.specs.declared.pieces.Piece.{Piece}
use Rattle.hm_graph_laws.specs.Layers.{states_after, first_layer, written, written_from}
use Rattle.hm_graph_laws.specs.Prices.{Row, price_at, full}
use Rattle.hm_graph_laws.specs.Ways.{Edges}
use Rattle.hm_graph.specs.Fits.{StepsFit}
use Rattle.hm_optimality_laws.specs.Formats.{follows_by}
use Rattle.hm_graph.specs.Steps.{Step}
use Rattle.hm_graph.proofs.StepPlaces.{tells_price}
use Rattle.hm_graph.proofs.Rows.{row_agrees}
use Rattle.hm_graph.proofs.Written.{full_agrees, left_out_agrees, width_agrees}
use Rattle.hm_check.specs.Rows.{OtherWidth, other_width, high_price, high_in, or_else}
use Rattle.hm_check.specs.Steps.{count_over, other_width_over, high_price_over, by_full_over, by_width_over, by_rows_over}
use Rattle.hm_check.specs.Verdicts.{by_high, by_full, by_width, by_rows}
use Rattle.hm_check.specs.declared.verdicts.Verdict.TheVariants.{No}
use Rattle.hm_check.specs.declared.verdicts.Why.TheVariants.{WrongLayers}

length_by : (b : Bool) (k : ℕ) (numbers : List ℕ) → cond b (length numbers) (suc (length numbers)) ≡ length (cond b numbers (k ∷ numbers))
length_by true k numbers = refl
length_by false k numbers = refl

-- as many layers are written
count_agrees : (edges : Edges) (bytes : Unit → Piece → List ℕ) (units : List Unit) (states : List State) (steps : List Step) (last : ℕ) (format : Format) (k : ℕ)
    → StepsFit edges bytes units states steps last → count_over format k steps ≡ length (written_from edges (follows_by format edges) k units states)
count_agrees edges bytes [] states [] last format k h = refl
count_agrees edges bytes [] states (step ∷ steps) last format k h = absurd h
count_agrees edges bytes (unit ∷ units) states [] last format k h = absurd h
count_agrees edges bytes (unit ∷ units) states (step ∷ steps) last format k h =
    let next : List State = states_after edges unit states in
    let numbers : List ℕ = written_from edges (follows_by format edges) (suc k) units next in
    let more : count_over format (suc k) steps ≡ length numbers = count_agrees edges bytes units next steps last format (suc k) h.1 in
    (λ i. cond (left_out_agrees edges (bytes unit) next format k unit states step h.0 i) (more i) (suc (more i)))
    ∙ length_by (not (k == 0) && follows_by format edges unit states) k numbers

-- the same widths are wanted
width_found : (edges : Edges) (bytes : Unit → Piece → List ℕ) (units : List Unit) (states : List State) (steps : List Step) (last : ℕ) (format : Format) (k : ℕ) (rows : List Row)
    → StepsFit edges bytes units states steps last → other_width_over format k last steps rows ≡ other_width edges (follows_by format edges) k units states rows
width_found edges bytes units states steps last format k [] h = refl
width_found edges bytes [] states [] last format k (row ∷ rows) h = λ i. cond (length row == h i) None (Some (record { layer = k; got = length row; want = h i }))
width_found edges bytes [] states (step ∷ steps) last format k (row ∷ rows) h = absurd h
width_found edges bytes (unit ∷ units) states [] last format k (row ∷ rows) h = absurd h
width_found edges bytes (unit ∷ units) states (step ∷ steps) last format k (row ∷ rows) h =
    let next : List State = states_after edges unit states in
    let follows : other_width_over format (suc k) last steps (row ∷ rows) ≡ other_width edges (follows_by format edges) (suc k) units next (row ∷ rows) = width_found edges bytes units next steps last format (suc k) (row ∷ rows) h.1 in
    let more : other_width_over format (suc k) last steps rows ≡ other_width edges (follows_by format edges) (suc k) units next rows = width_found edges bytes units next steps last format (suc k) rows h.1 in
    let width : length step ≡ length states = width_agrees (bytes unit) next (edges unit) states step h.0 in
    λ i. cond (left_out_agrees edges (bytes unit) next format k unit states step h.0 i) (follows i) (cond (length row == width i) (more i) (Some (record { layer = k; got = length row; want = width i })))

-- the same price is the first above its bound
high_found : (edges : Edges) (bytes : Unit → Piece → List ℕ) (units : List Unit) (states : List State) (steps : List Step) (last : ℕ) (k : ℕ) (rows : List Row)
    → StepsFit edges bytes units states steps last → high_price_over k steps rows ≡ high_price edges k units states rows
high_found edges bytes units states steps last k [] h = refl
high_found edges bytes [] states [] last k (row ∷ rows) h = refl
high_found edges bytes [] states (step ∷ steps) last k (row ∷ rows) h = absurd h
high_found edges bytes (unit ∷ units) states [] last k (row ∷ rows) h = absurd h
high_found edges bytes (unit ∷ units) states (step ∷ steps) last k (row ∷ []) h = refl
high_found edges bytes (unit ∷ units) states (step ∷ steps) last k (row ∷ next ∷ rows) h =
    let after : List State = states_after edges unit states in
    let more : high_price_over (suc k) steps (next ∷ rows) ≡ high_price edges (suc k) units after (next ∷ rows) = high_found edges bytes units after steps last (suc k) (next ∷ rows) h.1 in
    λ i. or_else (high_in k 0 row (row_agrees (bytes unit) after next (price_at after next) (edges unit) states step (tells_price after next) h.0 i)) (more i)

full_found : (edges : Edges) (bytes : Unit → Piece → List ℕ) (units : List Unit) (steps : List Step) (last n : ℕ) (prices : Option (List Row))
    → StepsFit edges bytes units first_layer steps last → by_full_over n steps prices ≡ by_full edges n units prices
full_found edges bytes units steps last n None h = refl
full_found edges bytes units steps last n (Some prices) h = ap (by_high n prices) (high_found edges bytes units first_layer steps last 0 prices h)

by_width_found : (edges : Edges) (bytes : Unit → Piece → List ℕ) (units : List Unit) (steps : List Step) (last : ℕ) (format : Format) (n : ℕ) (rows : List Row) (width : Option OtherWidth)
    → StepsFit edges bytes units first_layer steps last → by_width_over format last steps n rows width ≡ by_width edges (follows_by format edges) n units rows width
by_width_found edges bytes units steps last format n rows (Some w) h = refl
by_width_found edges bytes units steps last format n rows None h =
    ap (by_full_over n steps) (full_agrees edges bytes units first_layer steps last format 0 rows h) ∙ full_found edges bytes units steps last n (full edges (follows_by format edges) units rows) h

-- what is found of written rows is the same over steps
pub rows_found : (edges : Edges) (bytes : Unit → Piece → List ℕ) (units : List Unit) (steps : List Step) (last : ℕ) (format : Format) (n : ℕ) (rows : List Row)
    → StepsFit edges bytes units first_layer steps last → by_rows_over format last steps n rows ≡ by_rows edges (follows_by format edges) n units rows
rows_found edges bytes units steps last format n rows h =
    let count : count_over format 0 steps ≡ length (written edges (follows_by format edges) units) = count_agrees edges bytes units first_layer steps last format 0 h in
    let width : other_width_over format 0 last steps rows ≡ other_width edges (follows_by format edges) 0 units first_layer rows = width_found edges bytes units first_layer steps last format 0 rows h in
    let found : by_width_over format last steps n rows (other_width_over format 0 last steps rows) ≡ by_width edges (follows_by format edges) n units rows (other_width edges (follows_by format edges) 0 units first_layer rows) =
    ap (by_width_over format last steps n rows) width ∙ by_width_found edges bytes units steps last format n rows (other_width edges (follows_by format edges) 0 units first_layer rows) h in
    λ i. cond (length rows == count i) (found i) (No (WrongLayers (length rows) (count i)))
