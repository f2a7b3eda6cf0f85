-- Words for the edges of a character.
use Rattle.std.specs.Prelude.{ℕ, Bool, true, false, List, ◌++◌, map, Option, if◌then◌else◌}
use Rattle.hm_graph_laws.specs.ExchangeLaws.{needs_reference}
use Rattle.hm_refs.specs.Names.{Entry}
use Rattle.hm_spelling_spec.specs.Characters.{CharacterRules}
use Rattle.hm_graph_laws.specs.CharacterEdges.{spot_at, after_name, after_pair, choices, section_edges, opened_sections, is_in_section, kept_at}
use Rattle.hm_graph_laws.specs.Edges.{Edge}
use Rattle.hm_graph_laws.specs.States.{Pending, State}
use Rattle.hm_graph_laws.specs.Units.{TextKind}

-- references only at characters that need them
abbrev pub rules_with : List Entry → Bool → CharacterRules
rules_with t ascii = record { ascii = ascii; refers = needs_reference t }

-- what is pending after a name for one code point, or for two
abbrev pub after_by : Bool → List ℕ → Pending
after_by false = after_name
after_by true = after_pair

-- the edges of a character outside of sections, and in one; of the next code point the names ask for the pair alone
abbrev pub edges_by_pair : List Entry → Bool → TextKind → ℕ → Option ℕ → Option ℕ → State → List Edge
edges_by_pair t ascii kind c pair next s =
    if is_in_section s.at then section_edges ascii c next s.pending
    else map (kept_at s.at) (choices t (rules_with t ascii) (spot_at kind s.at) c pair s.pending) ++ opened_sections ascii (spot_at kind s.at) c next s
