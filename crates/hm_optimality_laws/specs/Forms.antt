-- One form of a value in place of another: a way over the value and all that follows it is hardly longer, and shorter if a
-- character whose references are costly is written as itself.
use Rattle.std.specs.Prelude.{◌≡◌, ◌≤◌, ℕ, ◌+◌, true, List, ◌∷◌, ◌++◌, length}
use Rattle.hm_refs.specs.Tables.{IsTable}
use Rattle.hm_spelling_spec.specs.Tags.{Spelling}
use Rattle.hm_graph_laws.specs.Forms.{added, covers, gains, saved}
use Rattle.hm_graph_laws.specs.States.{Where, in_unquoted, in_double, in_single, nothing, state}
use Rattle.hm_graph_laws.specs.UnitEdges.{edges_of}
use Rattle.hm_graph_laws.specs.Units.{Unit, attribute_end, character_units, in_value}
use Rattle.hm_graph_laws.specs.Ways.{Way}

abbrev pub IsForm : Where → Type 0
IsForm in_unquoted = Prim.Unit {0}
IsForm in_double = Prim.Unit {0}
IsForm in_single = Prim.Unit {0}
IsForm at = ⊥

-- the units of a value and those after it
abbrev pub value_and : List ℕ → List Unit → List Unit
value_and v units = character_units in_value v ++ attribute_end ∷ units

-- a way over the value in this form and over what follows, with at most `more` bytes more than b, and `fewer` less than that
pub record HasFormWay (g : Spelling) (units : List Unit) (form : Where) (b : List ℕ) (more fewer : ℕ) : Type 0 where
  pub bytes : List ℕ
  pub way : Way (edges_of g) units (state form nothing) bytes
  pub short : length bytes + fewer ≤ length b + more

-- If a form covers another, each way over the value in the other form has one in this form that is hardly longer, and shorter
-- if a costly character gains.
abbrev pub FormsAreBounded : Type 0
FormsAreBounded =
    (g : Spelling) → IsTable g.table → (v : List ℕ) (form other : Where) → IsForm form → IsForm other → covers form other v ≡ true
    → (units : List Unit) (b : List ℕ) → Way (edges_of g) (value_and v units) (state other nothing) b
    → HasFormWay g (value_and v units) form b (added other) (saved (gains g.table form other v))
