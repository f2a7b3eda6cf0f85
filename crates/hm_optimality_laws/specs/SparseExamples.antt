-- The edges that are kept, on examples.
use Rattle.std.specs.Prelude.{◌≡◌, ℕ, true, false, List, [], ◌∷◌, Some, None, codes, refl}
use Rattle.std.specs.Fmt.{digits}
use lib.Utf8.{encode}
use Rattle.hm_optimality_laws.specs.Dominated.{dominance, forced_follows, kept_edges, sparse}
use Rattle.hm_refs.specs.Numbers.{best_number, point_of}
use Rattle.hm_spelling_spec.specs.Characters.{is_barred, is_writable, may_stand}
use Rattle.hm_graph_laws.specs.TagEdges.{start_edges}
use Rattle.hm_graph_laws.specs.CharacterEdges.{as_itself, after_pair, character_edges}
use Rattle.hm_graph_laws.specs.CharacterExamples.{two, usual}
use Rattle.hm_base.specs.Bytes.{is_space}
use Rattle.hm_graph_laws.specs.AttributeEdges.{opening_edges}
use Rattle.hm_graph_laws.specs.Edges.{Edge, edge}
use Rattle.hm_refs.specs.Examples.{seven}
use Rattle.hm_refs.specs.Names.{Entry}
use Rattle.hm_graph_laws.specs.States.{first_state, same_state, state, after_name, in_double, in_single, in_unquoted, outside, after_omitted_end, in_section, nothing, less_than, decimal, half, two_brackets}
use Rattle.hm_graph_laws.specs.Units.{attribute_end, attribute_name, character, in_foreign, in_text, start_tag}

-- a plain character stands as itself
pub of_plain : kept_edges (dominance []) (character in_text 97 None) (character_edges [] usual in_text 97 None first_state) ≡ edge (codes "a") outside nothing ∷ []
unfolding same_state as_itself may_stand is_writable best_number point_of digits encode
of_plain = refl

-- what leaves less pending doesn't dominate where it is longer, so each way to write '<' is kept
pub of_less_than : kept_edges (dominance []) (character in_text 60 None) (character_edges [] usual in_text 60 None first_state) ≡ edge (codes "<") outside less_than ∷ edge (codes "&#60") outside decimal ∷ edge (codes "&#60;") outside nothing ∷ []
unfolding same_state as_itself may_stand is_writable best_number point_of digits encode
of_less_than = refl

-- a code point that is due isn't forgotten
pub of_pair : kept_edges (dominance two) (character in_text 120 (Some 0x338)) (character_edges two usual in_text 120 (Some 0x338) first_state) ≡ edge (codes "x") outside nothing ∷ edge (codes "&ab;") outside (half None) ∷ []
unfolding same_state as_itself may_stand is_writable best_number point_of digits encode after_pair
of_pair = refl

-- With nothing pending a start tag that may be left out is left out. After a number without ';' the tag is kept as well,
-- since it ends the number.
pub of_start_tag : kept_edges (dominance []) (start_tag (codes "p") true false false) (start_edges (codes "p") true false false first_state) ≡ edge [] outside nothing ∷ []
unfolding same_state
of_start_tag = refl

pub of_start_tag_after_number : kept_edges (dominance []) (start_tag (codes "p") true false false) (start_edges (codes "p") true false false (state outside decimal)) ≡ edge [] outside decimal ∷ edge (codes "<p>") outside nothing ∷ []
unfolding same_state
of_start_tag_after_number = refl

-- a layer is left out where no state has a choice, however many states there are
pub two_forced : forced_follows (sparse (dominance []) (λ unit s. start_edges (codes "p") true false false s)) attribute_end (first_state ∷ state after_omitted_end nothing ∷ []) ≡ true
unfolding same_state
two_forced = refl

pub one_with_choice : forced_follows (sparse (dominance []) (λ unit s. start_edges (codes "p") true false false s)) attribute_end (first_state ∷ state outside decimal ∷ []) ≡ false
unfolding same_state
one_with_choice = refl

-- in SVG a section stays a choice
pub of_section : kept_edges (dominance []) (character in_foreign 97 (Some 98)) (character_edges [] usual in_foreign 97 (Some 98) first_state) ≡ edge (codes "a") outside nothing ∷ edge (codes "<![CDATA[a") in_section nothing ∷ []
unfolding same_state as_itself may_stand is_writable best_number point_of digits encode
of_section = refl

-- of two with as many bytes to the same state the first is kept
pub first_of_equals : kept_edges (dominance []) attribute_end (edge (codes "&a;") outside nothing ∷ edge (codes "&b;") outside nothing ∷ []) ≡ edge (codes "&a;") outside nothing ∷ []
unfolding same_state
first_of_equals = refl

-- one with as many bytes that leaves something pending is kept before one with nothing pending, and not after it
pub kept_in_front : kept_edges (dominance []) attribute_end (edge (codes "&ab") outside decimal ∷ edge (codes "&b;") outside nothing ∷ []) ≡ edge (codes "&ab") outside decimal ∷ edge (codes "&b;") outside nothing ∷ []
unfolding same_state
kept_in_front = refl

pub dominated_after : kept_edges (dominance []) attribute_end (edge (codes "&b;") outside nothing ∷ edge (codes "&ab") outside decimal ∷ []) ≡ edge (codes "&b;") outside nothing ∷ []
unfolding same_state
dominated_after = refl

-- brackets in a section aren't forgotten
pub of_brackets : kept_edges (dominance []) attribute_end (edge (codes "a") in_section nothing ∷ edge (codes "]]") in_section two_brackets ∷ []) ≡ edge (codes "a") in_section nothing ∷ edge (codes "]]") in_section two_brackets ∷ []
unfolding same_state
of_brackets = refl

-- ---- Forms of a value

-- the edges that open this value of an attribute `a`, without those that are dominated
abbrev opened : List Entry → List ℕ → List Edge
opened t v = kept_edges (dominance t) (attribute_name (codes "a") v) (opening_edges false true (codes "a") (state after_name nothing))

abbrev bare : Edge
bare = edge (codes " a=") in_unquoted nothing

abbrev double_quoted : Edge
double_quoted = edge (codes " a=\"") in_double nothing

abbrev single_quoted : Edge
single_quoted = edge (codes " a='") in_single nothing

-- a value that may stand without quotes keeps one form
pub of_plain_value : opened [] (codes "x/y") ≡ bare ∷ []
unfolding same_state is_barred is_space
of_plain_value = refl

-- one with a space has its quotes, since `&#32` takes three bytes more
pub of_space : opened [] (codes "x y") ≡ double_quoted ∷ []
unfolding same_state is_barred is_space
of_space = refl

-- `&#9` takes two more, as the quotes do, so both forms are kept
pub of_tab : opened [] (120 ∷ 9 ∷ 121 ∷ []) ≡ bare ∷ double_quoted ∷ []
unfolding same_state is_barred is_space
of_tab = refl

-- with both kinds of quotes each quoted form is kept
pub of_both_quotes : opened [] (codes "it's \"x\"") ≡ double_quoted ∷ single_quoted ∷ []
unfolding same_state is_barred is_space
of_both_quotes = refl

-- with double ones alone it has single quotes
pub of_double_quotes : opened [] (codes "\"x\"") ≡ single_quoted ∷ []
unfolding same_state is_barred is_space
of_double_quotes = refl

-- `&lt` takes as much as the quotes do, where the table has it
pub of_costly_less_than : opened [] (codes "1<2") ≡ double_quoted ∷ []
unfolding same_state is_barred is_space
of_costly_less_than = refl

pub of_cheap_less_than : opened seven (codes "1<2") ≡ bare ∷ double_quoted ∷ []
unfolding same_state is_barred is_space
of_cheap_less_than = refl
