-- What is interned of a tree's graph: lists of states with numbers, and steps with numbers, each with the number of the list
-- after it.
use Rattle.std.specs.Prelude.{◌≡◌, ℕ, ◌<◌, Bool, true, false, ◌&&◌, ◌||◌, nat_lt, List, [], ◌∷◌, None, length, slice_index_or, bytes_eq}
use Rattle.std.specs.BTreeSet.{BTreeSet, contains}
use Rattle.std.specs.List.{list_any}
use Rattle.std.specs.Ordering.{nat_cmp}
use Rattle.hm_refs.specs.Names.{Entry}
use Rattle.hm_refs.specs.Tables.{TableView}
use Rattle.hm_edges.specs.Units.{has_pair}
use Rattle.hm_edges.specs.declared.states.Pending.TheVariants.{Nothing}
use Rattle.hm_edges.specs.declared.states.State.{State}
use Rattle.hm_edges.specs.declared.states.Where.TheVariants.{Outside}
use Rattle.hm_edges.specs.declared.units.TextKind.{TextKind}
use Rattle.hm_edges.specs.declared.units.Unit.{Unit}
use Rattle.hm_edges.specs.declared.units.Unit.TheVariants.{Character}
use Rattle.hm_graph.specs.Layers.{HaveNodes, IsLayer}
use Rattle.hm_graph.specs.declared.made.MadeStep.{MadeStep}
use Rattle.hm_graph.specs.declared.made.KnownStep.{KnownStep}
use Rattle.hm_graph.specs.declared.made.Reached.{Reached}
use Rattle.hm_graph.specs.declared.plain.PlainRow.{PlainRow}
use Rattle.hm_graph.specs.declared.rules.EdgeRules.{EdgeRules}
use Rattle.hm_graph.specs.declared.told.EntityFacts.{EntityFacts}
use Rattle.hm_graph_laws.specs.Forms.{is_second, leaves_open}

-- lists of states, and what was made from them
pub record InternedView : Type 0 where
  pub table : TableView
  pub rules : EdgeRules
  pub lists : List (List State)
  pub steps : List MadeStep

abbrev pub list_at : InternedView → ℕ → List State
list_at m k = slice_index_or m.lists k []

abbrev pub none_made : MadeStep
none_made = record { step = []; after = 0 }

abbrev pub made_at : InternedView → ℕ → MadeStep
made_at m n = slice_index_or m.steps n none_made

-- the state before the first unit
abbrev pub first_states : List State
first_states = record { at = Outside; pending = Nothing } ∷ []

-- only the first list is there
abbrev pub only_first : TableView → EdgeRules → InternedView
only_first v rules = record { table = v; rules = rules; lists = first_states ∷ []; steps = [] }

-- the list has this number
pub record IsListOf (m : InternedView) (states : List State) (k : ℕ) : Type 0 where
  pub there : k < length m.lists
  pub list : list_at m k ≡ states

-- nodes are of the table
pub record IsInterned (m : InternedView) : Type 0 where
  pub nodes : (k : ℕ) → HaveNodes m.table (list_at m k)

-- what was there is there still
pub record Grows (old new : InternedView) : Type 0 where
  pub table : new.table ≡ old.table
  pub rules : new.rules ≡ old.rules
  pub lists : (k : ℕ) → k < length old.lists → IsListOf new (list_at old k) k
  pub steps : (n : ℕ) → n < length old.steps → (n < length new.steps) × (made_at new n ≡ made_at old n)

-- this number has the step of the unit from the states of this list
pub record IsStepOf (m : InternedView) (list : ℕ) (unit : Unit) (n : ℕ) : Type 0 where
  pub there : n < length m.steps
  pub after : (made_at m n).after < length m.lists
  pub layer : IsLayer m.table m.rules unit (list_at m list) (list_at m (made_at m n).after) (made_at m n).step

-- it has the number of the step of its unit from its list
pub record IsMemo (m : InternedView) (x : KnownStep) : Type 0 where
  pub from : x.list < length m.lists
  pub step : IsStepOf m x.list x.unit x.number

-- ---- Names for two code points

-- no name stands for the code point and a second one
abbrev pub BeginsNoPair : List Entry → ℕ → Type 0
BeginsNoPair t c = (d : ℕ) → has_pair t c d ≡ false

-- with each code point that is marked none does
abbrev pub AreLone : List Entry → List Bool → Type 0
AreLone t lone = (c : ℕ) → slice_index_or lone c false ≡ true → BeginsNoPair t c

-- ---- What names tell of characters

-- a name by which references to c are cheap, whatever follows
abbrev pub cheapens : ℕ → Entry → Bool
cheapens c e = (bytes_eq e.points (c ∷ []) && nat_lt (length e.name) 4) || is_second c e.points

-- for each character of ASCII, whether some name passes a test
abbrev pub AreMarked : (ℕ → Entry → Bool) → List Entry → List Bool → Type 0
AreMarked test t marks = (c : ℕ) → c < 128 → slice_index_or marks c false ≡ list_any (test c) t

-- just the characters for which some name passes a test
abbrev pub AreOf : (ℕ → Entry → Bool) → List Entry → BTreeSet ℕ → Type 0
AreOf test t set = (c : ℕ) → contains nat_cmp set c ≡ list_any (test c) t

-- of ASCII characters, whether it is known that no name for two code points begins with them, and whether references to them
-- are cheap; and the characters with which names without ';' end
pub record AreTold (t : List Entry) (told : EntityFacts) : Type 0 where
  pub lone : AreLone t told.lone.items
  pub cheap : AreMarked cheapens t told.cheap
  pub ends : AreOf leaves_open t told.ends

-- ---- Rows of plain characters

-- it isn't known where a character leads
abbrev pub unknown : Reached
unknown = record { number = 4294967295; after = 0 }

abbrev pub IsKnown : Reached → Type 0
IsKnown to = to.number < 4294967295

-- the character's place in a row has this step
abbrev pub IsToward : List Reached → Reached → ℕ → Type 0
IsToward steps to c = (slice_index_or steps c unknown).number ≡ to.number

-- From its list a character of ASCII leads to `to`, before another one or as the last of its text. Where it stands before
-- another one, no name for two code points begins with it.
pub record Leads (m : InternedView) (list : ℕ) (kind : TextKind) (more : Bool) (to : Reached) (c : ℕ) : Type 0 where
  pub ascii : c < 128
  pub from : list < length m.lists
  pub step : IsStepOf m list (Character kind c None more) to.number
  pub after : to.after ≡ (made_at m to.number).after
  pub lone : more ≡ true → BeginsNoPair m.table.entries c

-- with each character that is known it is so
abbrev pub IsRow : InternedView → Bool → PlainRow → Type 0
IsRow m more x = (c : ℕ) → IsKnown (slice_index_or x.steps.items c unknown) → Leads m x.list x.kind more (slice_index_or x.steps.items c unknown) c
