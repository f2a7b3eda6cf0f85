-- Ways (paths through the layered graph) over the units of a tree, and the least of them. All of this holds for any edges.
use Rattle.std.specs.Prelude.{◌≡◌, ℕ, ◌+◌, Bool, true, false, List, [], ◌∷◌, ◌++◌, min, nat_eq, Option, Some, None, if◌then◌else◌}
use Rattle.std.specs.Option.{option_map}
use Rattle.hm_refs.specs.Tables.{IsIn}
use Rattle.hm_graph_laws.specs.Edges.{Edge, edge_length}
use Rattle.hm_graph_laws.specs.States.{State}
use Rattle.hm_graph_laws.specs.Units.{Unit}

-- the edges of a unit from a state, in their order
abbrev pub Edges : Type 0
Edges = Unit → State → List Edge

-- a way over these units from a state to the end, with the bytes that it writes
abbrev pub Way : Edges → List Unit → State → List ℕ → Type 0
Way es [] from b = b ≡ []
Way es (unit ∷ units) from b = (e : Edge) × IsIn e (es unit from) × ((rest : List ℕ) × (b ≡ e.bytes ++ rest) × Way es units e.to rest)

-- ---- Prices (potentials: the cost to go): a number of bytes up to the end, or None (infinite) if there is no way

-- the lesser price; an infinite one is greater than each number
abbrev pub lesser : Option ℕ → Option ℕ → Option ℕ
lesser None b = b
lesser (Some a) None = Some a
lesser (Some a) (Some b) = Some (min a b)

-- the price over an edge
abbrev pub over : ℕ → Option ℕ → Option ℕ
over n price = option_map (λ q. n + q) price

-- the least price over these edges, by the prices of the states that they lead to
abbrev pub best : (State → Option ℕ) → List Edge → Option ℕ
best after [] = None
best after (e ∷ es) = lesser (over (edge_length e) (after e.to)) (best after es)

-- the least number of bytes of a way from a state to the end, infinite if there is none
abbrev pub least : Edges → List Unit → State → Option ℕ
least es [] from = Some 0
least es (unit ∷ units) from = best (least es units) (es unit from)

-- ---- The first way

abbrev pub same_price : Option ℕ → Option ℕ → Bool
same_price None None = true
same_price (Some a) (Some b) = nat_eq a b
same_price a b = false

-- the first edge over which a price comes
abbrev pub first_edge : (State → Option ℕ) → Option ℕ → List Edge → Option Edge
first_edge after price [] = None
first_edge after price (e ∷ es) = if same_price (over (edge_length e) (after e.to)) price then Some e else first_edge after price es

abbrev pub along : Option Edge → (State → List ℕ) → List ℕ
along None more = []
along (Some e) more = e.bytes ++ more e.to

-- the bytes of the way that takes, at each state, the first edge over which the least price comes
abbrev pub first_way : Edges → List Unit → State → List ℕ
first_way es [] from = []
first_way es (unit ∷ units) from = along (first_edge (least es units) (least es (unit ∷ units) from) (es unit from)) (first_way es units)
