-- What the states of the code mean: a node stands for the bytes that lead to it in the table.
use Rattle.std.specs.Prelude.{◌≡◌, true, Some}
use Rattle.std.specs.Option.{option_map}
use Rattle.hm_refs.specs.Tables.{TableView, IsNode, front_at}
use Rattle.hm_spelling_spec.specs.Characters as spots
use Rattle.hm_graph_laws.specs.States as states
use Rattle.hm_edges.specs.declared.states.Where.{Where}
use Rattle.hm_edges.specs.declared.states.Where.TheVariants.{Outside, AfterOmittedEnd, SelfClosed, AfterName, AfterUnquoted, AfterQuoted, InUnquoted, InDouble, InSingle, InSection}
use Rattle.hm_edges.specs.declared.states.Pending.{Pending}
use Rattle.hm_edges.specs.declared.states.Pending.TheVariants.{Nothing, LessThan, Hash, HashX, Decimal, Hexadecimal, Ampersand, Named, Half, OneBracket, TwoBrackets}
use Rattle.hm_edges.specs.declared.states.Spot.{Spot}
use Rattle.hm_edges.specs.declared.states.Spot.TheVariants.{Text, Rcdata, Foreign, Unquoted, Double, Single}
use Rattle.hm_edges.specs.declared.states.State.{State}

abbrev pub where_of : Where → states.Where
where_of Outside = states.outside
where_of AfterOmittedEnd = states.after_omitted_end
where_of SelfClosed = states.self_closed
where_of AfterName = states.after_name
where_of AfterUnquoted = states.after_unquoted
where_of AfterQuoted = states.after_quoted
where_of InUnquoted = states.in_unquoted
where_of InDouble = states.in_double
where_of InSingle = states.in_single
where_of InSection = states.in_section

abbrev pub pending_of : TableView → Pending → states.Pending
pending_of v Nothing = states.nothing
pending_of v LessThan = states.less_than
pending_of v Hash = states.hash
pending_of v HashX = states.hash_x
pending_of v Decimal = states.decimal
pending_of v Hexadecimal = states.hexadecimal
pending_of v (Ampersand node) = states.ampersand (front_at v node)
pending_of v (Named node) = states.named (front_at v node)
pending_of v (Half left) = states.half (option_map (front_at v) left)
pending_of v OneBracket = states.one_bracket
pending_of v TwoBrackets = states.two_brackets

abbrev pub state_of : TableView → State → states.State
state_of v s = states.state (where_of s.at) (pending_of v s.pending)

abbrev pub spot_of : Spot → spots.Spot
spot_of Text = spots.text
spot_of Rcdata = spots.rcdata
spot_of Foreign = spots.foreign
spot_of Unquoted = spots.unquoted
spot_of Double = spots.double
spot_of Single = spots.single

-- each node in it is one of the table
abbrev pub HasNodes : TableView → Pending → Type 0
HasNodes v (Ampersand node) = IsNode v node
HasNodes v (Named node) = IsNode v node
HasNodes v (Half (Some node)) = IsNode v node
HasNodes v pending = Unit {0}

-- equality of two states says whether they mean the same
abbrev pub LikeStatesAreEqual : Type 0
LikeStatesAreEqual =
    (v : TableView) (s t : State) → HasNodes v s.pending → HasNodes v t.pending
    → (states.same_state (state_of v s) (state_of v t) ≡ true → s ≡ t) × (s ≡ t → states.same_state (state_of v s) (state_of v t) ≡ true)
