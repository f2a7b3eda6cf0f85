-- What steps say about the graph that they are the steps of.
use Rattle.std.specs.Prelude.{◌≡◌, ℕ, List, Some}
use Rattle.hm_base.specs.declared.plain.Format.{Format}
use Rattle.hm_graph_laws.specs.Prices as graph
use Rattle.hm_graph_laws.specs.Prices.{Row, least_prices, FeasibleFrom, full_from}
use Rattle.hm_graph_laws.specs.Ways.{Edges, Way, first_way}
use Rattle.hm_graph_laws.specs.States.{State}
use Rattle.hm_graph_laws.specs.Units.{Unit}
use Rattle.hm_edges.specs.declared.pieces.Piece.{Piece}
use Rattle.hm_graph.specs.Fits.{StepsFit, place_of}
use Rattle.hm_optimality_laws.specs.Formats.{follows_by}
use Rattle.hm_graph.specs.Prices.{rows_of, written_rows, full_rows, KeepsRows}
use Rattle.hm_graph.specs.Steps.{Step}
use Rattle.hm_graph.specs.Ways.{WayOver, way_from}

-- the prices over steps are the least ones
abbrev pub RowsAreLeast : Type 0
RowsAreLeast = (edges : Edges) (bytes : Unit → Piece → List ℕ) (units : List Unit) (states : List State) (steps : List Step) (last : ℕ)
    → StepsFit edges bytes units states steps last → rows_of last steps ≡ least_prices edges units states

-- the way over steps is the first one
abbrev pub WayIsFirst : Type 0
WayIsFirst = (edges : Edges) (bytes : Unit → Piece → List ℕ) (units : List Unit) (states : List State) (steps : List Step) (last : ℕ) (s : State) (place : ℕ)
    → StepsFit edges bytes units states steps last → place_of states s ≡ Some place → way_from bytes last units steps place ≡ first_way edges units s

-- each way over steps is a way of the graph, with the same bytes
abbrev pub WaysAreWays : Type 0
WaysAreWays = (edges : Edges) (bytes : Unit → Piece → List ℕ) (units : List Unit) (states : List State) (steps : List Step) (last : ℕ) (s : State) (place : ℕ) (b : List ℕ)
    → StepsFit edges bytes units states steps last → place_of states s ≡ Some place → WayOver bytes units steps place b → Way edges units s b

-- the rows that are written are the same
abbrev pub WrittenRowsAgree : Type 0
WrittenRowsAgree = (edges : Edges) (bytes : Unit → Piece → List ℕ) (units : List Unit) (states : List State) (steps : List Step) (last : ℕ) (format : Format) (k : ℕ) (rows : List Row)
    → StepsFit edges bytes units states steps last → written_rows format k steps rows ≡ graph.written_rows edges (follows_by format edges) k units states rows

-- what written rows stand for is the same
abbrev pub FullRowsAgree : Type 0
FullRowsAgree = (edges : Edges) (bytes : Unit → Piece → List ℕ) (units : List Unit) (states : List State) (steps : List Step) (last : ℕ) (format : Format) (k : ℕ) (rows : List Row)
    → StepsFit edges bytes units states steps last → full_rows format k last steps rows ≡ full_from edges (follows_by format edges) k units states rows

-- prices keep the rules over steps exactly where they do over edges
abbrev pub KeepingAgrees : Type 0
KeepingAgrees = (edges : Edges) (bytes : Unit → Piece → List ℕ) (units : List Unit) (states : List State) (steps : List Step) (last : ℕ) (rows : List Row)
    → StepsFit edges bytes units states steps last → (KeepsRows last steps rows → FeasibleFrom edges units states rows) × (FeasibleFrom edges units states rows → KeepsRows last steps rows)
