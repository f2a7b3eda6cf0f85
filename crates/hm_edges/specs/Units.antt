-- Which units of a tree a unit of the code stands for.
use Rattle.std.specs.Prelude.{◌≡◌, ℕ, Bool, true, false, not, ◌&&◌, ◌||◌, ◌==◌, List, [], ◌∷◌, Option, Some, None, is_some, if◌then◌else◌, length, bytes_eq}
use Rattle.std.specs.List.{list_any}
use Rattle.hm_refs.specs.Names.{Entry}
use Rattle.hm_graph_laws.specs.Units as units
use Rattle.hm_graph_laws.specs.Units.{next_of}
use Rattle.hm_graph_laws.specs.Forms.{is_costly}
use Rattle.hm_spelling_spec.specs.Characters.{is_barred}
use Rattle.hm_edges.specs.declared.units.TextKind.{TextKind}
use Rattle.hm_edges.specs.declared.units.TextKind.TheVariants as kinds
use Rattle.hm_edges.specs.declared.units.Unit.{Unit}
use Rattle.hm_edges.specs.declared.units.Unit.TheVariants as code
use Rattle.hm_edges.specs.declared.units.Need.{Need}
use Rattle.hm_edges.specs.declared.units.Need.TheVariants as need
use Rattle.hm_edges.specs.declared.units.Needs.{Needs}

abbrev pub kind_of : TextKind → units.TextKind
kind_of kinds.Text = units.in_text
kind_of kinds.Rcdata = units.in_rcdata
kind_of kinds.Foreign = units.in_foreign
kind_of kinds.Value = units.in_value

abbrev pub is_foreign_kind : TextKind → Bool
is_foreign_kind kinds.Foreign = true
is_foreign_kind kind = false

-- some name stands for the two code points
abbrev pub has_pair : List Entry → ℕ → ℕ → Bool
has_pair t c d = list_any (λ e. bytes_eq e.points (c ∷ d ∷ [])) t

-- the next code point, where some name stands for both
abbrev pub pair_of : List Entry → ℕ → Option ℕ → Option ℕ
pair_of t c None = None
pair_of t c (Some d) = if has_pair t c d then Some d else None

-- ---- What a value needs

-- characters that stand as themselves in quotes of either kind, and not without
abbrev pub needs_quotes : ℕ → Bool
needs_quotes c = is_barred c && not (c == 13 || (c == 34 || c == 39))

-- whether a reference to a character of this kind is costly
abbrev pub some_costly : List Entry → (ℕ → Bool) → Option ℕ → List ℕ → Bool
some_costly t kind previous [] = false
some_costly t kind previous (c ∷ v) = (kind c && is_costly t previous c (next_of v)) || some_costly t kind (Some c) v

abbrev pub need_by : Bool → Bool → Need
need_by has costly = if costly then need.Dear else if has then need.Cheap else need.Absent

abbrev pub need_for : List Entry → (ℕ → Bool) → List ℕ → Need
need_for t kind v = need_by (list_any kind v) (some_costly t kind None v)

-- what the code points of a value need, by the names of a table
abbrev pub needs_of : List Entry → List ℕ → Needs
needs_of t v = record { double = need_for t (λ c. c == 34) v; single = need_for t (λ c. c == 39) v; other = need_for t needs_quotes v }

-- ---- Units

-- The code's unit has what the edges of the tree's unit depend on: names by their length; values by what they need; of what follows a character,
-- the code point that a name gives together with it, and whether there is one.
pub data StandsFor (t : List Entry) : Unit → units.Unit → Type 0 where
  fixed : (b : List ℕ) (len : ℕ) → length b ≡ len → StandsFor t (code.Fixed len) (units.fixed b)
  start_tag : (n : List ℕ) (len : ℕ) (omits required_after_omission closes : Bool) → length n ≡ len → StandsFor t (code.StartTag len omits required_after_omission closes) (units.start_tag n omits required_after_omission closes)
  tag_name : (n : List ℕ) (len : ℕ) → length n ≡ len → StandsFor t (code.TagName len) (units.tag_name n)
  bare_attribute : (n : List ℕ) (len : ℕ) → length n ≡ len → StandsFor t (code.BareAttribute len) (units.bare_attribute n)
  attribute_name : (n v : List ℕ) (len : ℕ) (needs : Needs) → length n ≡ len → needs ≡ needs_of t v → StandsFor t (code.AttributeName len needs) (units.attribute_name n v)
  character : (kind : TextKind) (c : ℕ) (pair next : Option ℕ) (more : Bool) → pair ≡ pair_of t c next → more ≡ is_some next
      → StandsFor t (code.Character kind c pair more) (units.character (kind_of kind) c next)
  attribute_end : StandsFor t code.AttributeEnd units.attribute_end
  tag_close : (closes : Bool) → StandsFor t (code.TagClose closes) (units.tag_close closes)
  end_tag : (n : List ℕ) (len : ℕ) (omits notes_omission : Bool) → length n ≡ len → StandsFor t (code.EndTag len omits notes_omission) (units.end_tag n omits notes_omission)
