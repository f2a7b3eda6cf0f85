-- From the edges in a start tag with attributes to spellings, and back.
use Rattle.std.specs.Prelude.{◌≡◌, ℕ, ◌≤◌, Bool, true, false, List, [], ◌∷◌, ◌++◌, map, length}
use Rattle.hm_base.specs.Bytes.{lower}
use Rattle.hm_base.specs.Walks.{Attribute}
use Rattle.hm_refs.specs.Tables.{IsTable}
use Rattle.hm_spelling_spec.specs.Tags.{character_rules, Spelling, SpellsStart}
use Rattle.hm_graph_laws.specs.CharacterLaws.{HasCharacterEdges}
use Rattle.hm_graph_laws.specs.States.{self_closed, nothing, State, first_state, state}
use Rattle.hm_graph_laws.specs.Units.{Unit, tag_name, bare_attribute, attribute_name, attribute_end, tag_close, attribute_units}
use Rattle.hm_graph_laws.specs.UnitWays.{WayTo}
use Rattle.hm_graph_laws.specs.Ways.{Edges}
use Rattle.hm_graph_laws.specs.AttributeEdges.{name_edges, bare_edges, opening_edges, closing_edges, close_edges}

-- the units of a tag with attributes have their edges, whatever the edges of other units are
pub record HasTagEdges (g : Spelling) (es : Edges) : Type 0 where
  pub names : (n : List ℕ) (s : State) → es (tag_name n) s ≡ name_edges n
  pub bare_ones : (n : List ℕ) (s : State) → es (bare_attribute n) s ≡ bare_edges g.rules.tight n s
  pub openings : (n v : List ℕ) (s : State) → es (attribute_name n v) s ≡ opening_edges g.rules.tight g.rules.unquote n s
  pub characters : HasCharacterEdges g.table (character_rules g) es
  pub closings : (s : State) → es attribute_end s ≡ closing_edges g.table s
  pub ends : (closes : Bool) (s : State) → es (tag_close closes) s ≡ close_edges closes s

abbrev pub tag_units : List ℕ → List Attribute → Bool → List Unit
tag_units n attributes closes = tag_name n ∷ (attribute_units attributes ++ tag_close closes ∷ [])

-- where a tag leads, with and without a '/'
abbrev pub state_after_tag : Bool → State
state_after_tag false = first_state
state_after_tag true = state self_closed nothing

-- the names have no capitals, as in every tag that was read
abbrev pub AreLow : List Attribute → Type 0
AreLow [] = Prim.Unit {0}
AreLow (a ∷ attributes) = (map lower a.name ≡ a.name) × AreLow attributes

-- b spells the tag where `after` follows, with a '/' only where the tag may close itself
pub record TagSpelled (g : Spelling) (n : List ℕ) (attributes : List Attribute) (closes : Bool) (to : State) (b after : List ℕ) : Type 0 where
  pub slash : Bool
  pub inner : List ℕ
  pub is : b ≡ 60 ∷ inner
  pub spells : SpellsStart g n attributes slash b after
  pub leads : to ≡ state_after_tag slash
  pub may : slash ≡ true → closes ≡ true

-- the bytes along the edges of a tag are a spelling of it, whatever follows
abbrev pub TagsSpell : Type 0
TagsSpell =
    (g : Spelling) → IsTable g.table → (es : Edges) → HasTagEdges g es → (n : List ℕ) (attributes : List Attribute) (closes : Bool) (from to : State) (b after : List ℕ)
    → map lower n ≡ n → AreLow attributes → WayTo es (tag_units n attributes closes) from b to → TagSpelled g n attributes closes to b after

-- edges of the tag with no more bytes than b
pub record HasTagWay (es : Edges) (n : List ℕ) (attributes : List Attribute) (closes leads : Bool) (from : State) (b : List ℕ) : Type 0 where
  pub bytes : List ℕ
  pub way : WayTo es (tag_units n attributes closes) from bytes (state_after_tag leads)
  pub short : length bytes ≤ length b

-- for each spelling of a tag there are edges with no more bytes, without a '/' and, where it may close itself, with it
abbrev pub SpellingsHaveTags : Type 0
SpellingsHaveTags =
    (g : Spelling) → IsTable g.table → (es : Edges) → HasTagEdges g es → (n : List ℕ) (attributes : List Attribute) (closes slash leads : Bool) (from : State) (b after : List ℕ)
    → SpellsStart g n attributes slash b after → (leads ≡ true → (slash ≡ true) × (closes ≡ true)) → HasTagWay es n attributes closes leads from b
