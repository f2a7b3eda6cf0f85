-- What a piece writes for a unit, and the edge that an edge of the code is then.
use Rattle.std.specs.Prelude.{ℕ, ◌<◌, Bool, false, List, [], ◌∷◌, ◌++◌, map, length, if◌then◌else◌, codes, encode_utf8}
use Rattle.std.specs.Fmt.{decimal, digits}
use Rattle.std.specs.List.{AllByRecursion}
use Rattle.hm_refs.specs.Names.{Entry}
use Rattle.hm_refs.specs.Tables.{TableView, entry_at}
use Rattle.hm_graph_laws.specs.Edges as edges
use Rattle.hm_graph_laws.specs.Units as units
use Rattle.hm_edges.specs.declared.pieces.Quoting.{Quoting}
use Rattle.hm_edges.specs.declared.pieces.Quoting.TheVariants as forms
use Rattle.hm_edges.specs.declared.pieces.Piece.{Piece}
use Rattle.hm_edges.specs.declared.pieces.Piece.TheVariants as pieces
use Rattle.hm_edges.specs.declared.pieces.Edge.{Edge}
use Rattle.hm_edges.specs.States.{HasNodes, state_of}

-- the unit's own bytes: its name, its bytes without a choice, or its character
abbrev pub own_bytes : units.Unit → List ℕ
own_bytes (units.fixed b) = b
own_bytes (units.start_tag n omits required_after_omission closes) = n
own_bytes (units.tag_name n) = n
own_bytes (units.bare_attribute n) = n
own_bytes (units.attribute_name n v) = n
own_bytes (units.character kind c next) = encode_utf8 c
own_bytes units.attribute_end = []
own_bytes (units.tag_close closes) = []
own_bytes (units.end_tag n omits notes_omission) = n

abbrev pub with_gap : Bool → List ℕ → List ℕ
with_gap gap b = (if gap then 32 ∷ [] else []) ++ b

-- a name with what opens a value
abbrev pub with_opening : Quoting → List ℕ → List ℕ
with_opening forms.Bare n = n
with_opening forms.Unquoted n = n ++ codes "="
with_opening forms.Double n = n ++ codes "=\""
with_opening forms.Single n = n ++ codes "='"

abbrev pub closed_by : Bool → List ℕ → List ℕ → List ℕ
closed_by closed mark b = if closed then b ++ mark else b

-- the bytes that a piece writes, by those of its unit
abbrev pub piece_text : List Entry → List ℕ → Piece → List ℕ
piece_text t own pieces.Nothing = []
piece_text t own pieces.Itself = own
piece_text t own (pieces.StartTag closes) = codes "<" ++ (own ++ (if closes then codes "/>" else codes ">"))
piece_text t own pieces.TagName = 60 ∷ own
piece_text t own (pieces.Attribute gap form) = with_gap gap (with_opening form (own))
piece_text t own (pieces.Quote double) = if double then 34 ∷ [] else 39 ∷ []
piece_text t own (pieces.TagClose space closes) = with_gap space (if closes then codes "/>" else codes ">")
piece_text t own pieces.EndTag = codes "</" ++ (own ++ codes ">")
piece_text t own (pieces.Name id) = (entry_at t id).name
piece_text t own (pieces.Decimal number closed) = codes "&#" ++ closed_by closed (codes ";") (decimal number)
piece_text t own (pieces.Hexadecimal number closed) = codes "&#x" ++ closed_by closed (codes ";") (digits 16 false number)
piece_text t own (pieces.Section opens closes) = (if opens then codes "<![CDATA[" else []) ++ closed_by closes (codes "]]>") (own)

-- the bytes that a piece writes for a unit
abbrev pub piece_bytes : List Entry → units.Unit → Piece → List ℕ
piece_bytes t u piece = piece_text t (own_bytes u) piece

-- a name in it is one of the table
abbrev pub HasName : List Entry → Piece → Type 0
HasName t (pieces.Name id) = id < length t
HasName t piece = Unit {0}

abbrev pub edge_of : TableView → units.Unit → Edge → edges.Edge
edge_of v u e = record { bytes = piece_bytes v.entries u e.piece; to = state_of v e.to }

abbrev pub edges_seen : TableView → units.Unit → List Edge → List edges.Edge
edges_seen v u es = map (edge_of v u) es

-- names and nodes are those of the table
pub record IsOfTable (v : TableView) (e : Edge) : Type 0 where
  pub name : HasName v.entries e.piece
  pub nodes : HasNodes v e.to.pending

abbrev pub AreOfTable : TableView → List Edge → Type 0
AreOfTable v es = AllByRecursion (IsOfTable v) es
