-- Forms of a value, one in place of another, as the code counts their bytes.
use Rattle.std.specs.Prelude.{◌≡◌, ◌≤◌, ℕ, ◌+◌, Bool, true, false, not, ◌&&◌, ◌||◌, List, Option, Some, None, if◌then◌else◌}
use Rattle.hm_edges.specs.Units.{needs_of}
use Rattle.hm_edges.specs.declared.units.Needs.{Needs}
use Rattle.hm_graph_laws.specs.Edges.{Edge, edge_length}
use Rattle.hm_graph_laws.specs.States.{State, Where, in_double, in_single, in_unquoted, same_where}
use Rattle.hm_graph_laws.specs.Units.{Unit, attribute_name}
use Rattle.hm_graph.specs.EntityFacts.{is_absent, is_costly_need}
use Rattle.hm_graph.specs.declared.forms.Change.{Change}
use Rattle.hm_graph_laws.specs.Forms.{added, covers, gains, saved}
use Rattle.hm_optimality_laws.specs.Dominated.{form_dominates, is_form}
use Rattle.hm_refs.specs.Names.{Entry}

-- whether the quotes `to` can replace the quotes `from`
abbrev pub takes_place : List ℕ → Where → Where → Bool
takes_place v from to = is_form to && (is_form from && (not (same_where to from) && covers to from v))

-- they can exactly if there is a change, which has how many bytes are added at most and saved at least
abbrev pub IsFormChange : List Entry → List ℕ → Where → Where → Option Change → Type 0
IsFormChange t v from to None = takes_place v from to ≡ false
IsFormChange t v from to (Some x) = (takes_place v from to ≡ true) × ((x.added ≡ added from) × (x.saved ≡ saved (gains t to from v)))

-- few bytes either way
abbrev pub IsFew : Change → Type 0
IsFew x = (x.added ≤ 3) × (x.saved ≤ 3)

-- whether by a change m bytes are less than n
abbrev pub by_change : (ℕ → ℕ → Bool) → Option Change → ℕ → ℕ → Bool
by_change less None m n = false
by_change less (Some x) m n = less (m + x.added) (n + x.saved)

-- by the change from the state `from` to the state `to` one edge dominates another that open the same value
abbrev pub IsChange : List Entry → Unit → State → State → Option Change → Type 0
IsChange t unit from to change = (less : ℕ → ℕ → Bool) (e f : Edge) → e.to ≡ from → f.to ≡ to → form_dominates less t unit e f ≡ by_change less change (edge_length f) (edge_length e)

-- ---- By what the value needs

-- the needs are those of the value that the unit opens; there are none where it opens no value
abbrev pub AreNeeds : List Entry → Unit → Option Needs → Type 0
AreNeeds t (attribute_name n v) None = ⊥
AreNeeds t (attribute_name n v) (Some needs) = needs ≡ needs_of t v
AreNeeds t unit None = Prim.Unit {0}
AreNeeds t unit (Some needs) = ⊥

abbrev pub change : ℕ → ℕ → Change
change a s = record { added = a; saved = s }

abbrev pub change_where : Bool → ℕ → Option Change
change_where can_replace s = if can_replace then Some (change 0 s) else None

-- from no quotes
abbrev pub unquoted_change : Needs → Where → Option Change
unquoted_change n in_double = Some (change 1 (saved (is_costly_need n.single || is_costly_need n.other)))
unquoted_change n in_single = Some (change 1 (saved (is_costly_need n.double || is_costly_need n.other)))
unquoted_change n at = None

-- from double quotes
abbrev pub double_change : Needs → Where → Option Change
double_change n in_unquoted = change_where (is_absent n.single && is_absent n.other) 0
double_change n in_single = change_where (is_absent n.single) (saved (is_costly_need n.double))
double_change n at = None

-- from single quotes
abbrev pub single_change : Needs → Where → Option Change
single_change n in_unquoted = change_where (is_absent n.double && is_absent n.other) 0
single_change n in_double = change_where (is_absent n.double) (saved (is_costly_need n.single))
single_change n at = None

abbrev pub form_change : Needs → Where → Where → Option Change
form_change n in_unquoted to = unquoted_change n to
form_change n in_double to = double_change n to
form_change n in_single to = single_change n to
form_change n from to = None
