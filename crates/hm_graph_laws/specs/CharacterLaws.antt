-- From the edges of characters to spellings, and back.
use Rattle.std.specs.Prelude.{◌≡◌, ℕ, ◌≤◌, Bool, true, false, List, ◌++◌, length, Option}
use Rattle.hm_refs.specs.Names.{Entry}
use Rattle.hm_refs.specs.Tables.{IsTable}
use Rattle.hm_spelling_spec.specs.Characters.{CharacterRules, SpellsPoints}
use Rattle.hm_graph_laws.specs.CharacterEdges.{spot_at, is_outside, character_edges}
use Rattle.hm_graph_laws.specs.States.{Where, in_unquoted, in_double, in_single, State}
use Rattle.hm_graph_laws.specs.Steps.{keeps, Fits}
use Rattle.hm_graph_laws.specs.Units.{TextKind, in_value, character, character_units}
use Rattle.hm_graph_laws.specs.UnitWays.{WayTo}
use Rattle.hm_graph_laws.specs.Ways.{Edges}

-- the characters have their edges, whatever the edges of other units are
abbrev pub HasCharacterEdges : List Entry → CharacterRules → Edges → Type 0
HasCharacterEdges t rules es = (kind : TextKind) (c : ℕ) (next : Option ℕ) (s : State) → es (character kind c next) s ≡ character_edges t rules kind c next s

abbrev pub is_in_value : Where → Bool
is_in_value in_unquoted = true
is_in_value in_double = true
is_in_value in_single = true
is_in_value at = false

-- where a text of this kind begins and ends
abbrev pub stands_at : TextKind → Where → Bool
stands_at in_value at = is_in_value at
stands_at kind at = is_outside at

-- a state in which a text may begin and end: no section is open, and no code point is due
pub record MayStand (t : List Entry) (kind : TextKind) (s : State) : Type 0 where
  pub place : stands_at kind s.at ≡ true
  pub fits : Fits t (spot_at kind s.at) s.pending

-- whether the bytes that follow keep what is pending in a state
abbrev pub keeps_at : List Entry → TextKind → State → List ℕ → Bool
keeps_at t kind s x = keeps t (spot_at kind s.at) s.pending x

-- the text may end in that state, in the same place
pub record IsEnd (t : List Entry) (kind : TextKind) (from to : State) : Type 0 where
  pub ends : MayStand t kind to
  pub same_place : to.at ≡ from.at

-- edges over all characters of a text lead to a state in which it may end
abbrev pub WaysEnd : Type 0
WaysEnd =
    (t : List Entry) → IsTable t → (rules : CharacterRules) (es : Edges) → HasCharacterEdges t rules es
    → (kind : TextKind) (cs : List ℕ) (from to : State) (b : List ℕ) → MayStand t kind from → WayTo es (character_units kind cs) from b to → IsEnd t kind from to

-- b spells the code points where `after` follows and keeps what was pending, and the text ends in the same place
pub record Spelled (t : List Entry) (rules : CharacterRules) (kind : TextKind) (cs : List ℕ) (from to : State) (b after : List ℕ) : Type 0 where
  pub spells : SpellsPoints t rules (spot_at kind from.at) cs b after
  pub kept : keeps_at t kind from (b ++ after) ≡ true
  pub ends : MayStand t kind to
  pub same_place : to.at ≡ from.at

-- the bytes along edges to an end that is kept are a spelling
abbrev pub WaysSpell : Type 0
WaysSpell =
    (t : List Entry) → IsTable t → (rules : CharacterRules) (es : Edges) → HasCharacterEdges t rules es
    → (kind : TextKind) (cs : List ℕ) (from to : State) (b after : List ℕ) → MayStand t kind from → WayTo es (character_units kind cs) from b to → keeps_at t kind to after ≡ true
    → Spelled t rules kind cs from to b after

-- edges through the code points, with no more bytes than b, to an end that is kept
pub record HasTextWay (t : List Entry) (es : Edges) (kind : TextKind) (cs : List ℕ) (from : State) (b after : List ℕ) : Type 0 where
  pub to : State
  pub bytes : List ℕ
  pub way : WayTo es (character_units kind cs) from bytes to
  pub kept : keeps_at t kind to after ≡ true
  pub ends : MayStand t kind to
  pub same_place : to.at ≡ from.at
  pub short : length bytes ≤ length b

-- for each spelling that keeps what was pending there are edges with no more bytes
abbrev pub SpellingsHaveWays : Type 0
SpellingsHaveWays =
    (t : List Entry) → IsTable t → (rules : CharacterRules) (es : Edges) → HasCharacterEdges t rules es
    → (kind : TextKind) (cs : List ℕ) (from : State) (b after : List ℕ) → MayStand t kind from → SpellsPoints t rules (spot_at kind from.at) cs b after → keeps_at t kind from (b ++ after) ≡ true
    → HasTextWay t es kind cs from b after
