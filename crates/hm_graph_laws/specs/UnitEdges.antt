-- The edges of each unit from a state.
use Rattle.std.specs.Prelude.{List}
use Rattle.hm_graph_laws.specs.AttributeEdges.{name_edges, bare_edges, opening_edges, closing_edges, close_edges}
use Rattle.hm_spelling_spec.specs.Tags.{Spelling, character_rules}
use Rattle.hm_graph_laws.specs.TagEdges.{fixed_edges, start_edges, end_edges}
use Rattle.hm_graph_laws.specs.CharacterEdges.{character_edges}
use Rattle.hm_graph_laws.specs.Edges.{Edge}
use Rattle.hm_graph_laws.specs.States.{State}
use Rattle.hm_graph_laws.specs.Units.{Unit, fixed, start_tag, tag_name, bare_attribute, attribute_name, character, attribute_end, tag_close, end_tag}

-- the edges of a unit from a state, in their order
abbrev pub edges_of : Spelling → Unit → State → List Edge
edges_of g (fixed b) s = fixed_edges b
edges_of g (start_tag n omits required_after_omission closes) s = start_edges n omits required_after_omission closes s
edges_of g (tag_name n) s = name_edges n
edges_of g (bare_attribute n) s = bare_edges g.rules.tight n s
edges_of g (attribute_name n v) s = opening_edges g.rules.tight g.rules.unquote n s
edges_of g (character kind c next) s = character_edges g.table (character_rules g) kind c next s
edges_of g attribute_end s = closing_edges g.table s
edges_of g (tag_close closes) s = close_edges closes s
edges_of g (end_tag n omits notes_omission) s = end_edges n omits notes_omission s
