-- A page that is parsed as it comes: what is built of the text that is there, whatever follows.
use Rattle.std.specs.Prelude.{◌≡◌, ℕ, ◌||◌, IsCharBoundary, ◌≤◌, drop, Bool, true, false, nat_lt, List, [], ◌++◌, length, map, Option, Some, None, is_some, if◌then◌else◌}
use Rattle.std.specs.Option.{option_or}
use Rattle.hm_base.specs.Source.{PlacedByte, byte_of, place_in}
use Rattle.hm_base.specs.declared.rules.Rule.{Rule}
use Rattle.hm_base.specs.declared.rules.Rule.TheVariants.{TooLong}
use Rattle.hm_refs.specs.Names.{Entry}
use Rattle.hm_construction_laws.specs.Steps.{Construction, first_state}
use Rattle.hm_construction_laws.specs.Trees.{Outcome, refused_by, after_events, mode_of, page_tree, tree_from}
use Rattle.hm_decoder.specs.Fed.{decided}
use Rattle.hm_decoder.specs.Pieces.{HasFed, HasPage, Pieces, before_text, fault_so_far}
use Rattle.hm_lexer.specs.Ready.{ready}
use Rattle.hm_lexer.specs.Standing.{Standing, stands}
use Rattle.hm_base.specs.declared.rules.Refused.{Refused}
use Rattle.hm_base.specs.declared.rules.Refused.TheVariants as answers
use Rattle.hm_lexer.specs.Parts.{left_of}
use Rattle.hm_lexer.specs.Reading.{Reading, text_of}
use Rattle.hm_build.specs.Parsing.{IsWithin, read_of}
use Rattle.hm_insertion.specs.Building.{Building, first_building}

-- the tree of what is left of a text, from a state on
abbrev pub rest_tree : List Entry → Construction → List PlacedByte → ℕ → Outcome
rest_tree t st placed end = tree_from t (place_in placed end) 0 0 st (map byte_of placed)

-- what was built, and the tree of what is left
abbrev pub whole_tree : List Entry → Building → List PlacedByte → ℕ → Outcome
whole_tree t b placed end = after_events b.walk (rest_tree t b.state placed end)

-- With this text building comes from the one to the other, and this is left of the text, whatever follows.
pub record Comes (t : List Entry) (b : Building) (text : List PlacedByte) (next : Building) (left : List PlacedByte) : Type 0 where
  pub tree : (more : List PlacedByte) (end : ℕ) → whole_tree t b (text ++ more) end ≡ whole_tree t next (left ++ more) end
  pub standing : (y : List ℕ) → stands t 0 b.state (map byte_of text ++ y) ≡ stands t 0 next.state (map byte_of left ++ y)

-- This text is refused, whatever follows.
pub record IsStopped (t : List Entry) (b : Building) (text : List PlacedByte) (rule : Rule) (place : ℕ) : Type 0 where
  pub tree : (more : List PlacedByte) (end : ℕ) → whole_tree t b (text ++ more) end ≡ refused_by rule place
  pub standing : (y : List ℕ) → stands t 0 b.state (map byte_of text ++ y) ≡ None

-- ---- a text that is read part by part

-- what is left of the text, with its places
abbrev pub left : Reading → List PlacedByte
left r = drop r.at r.source.placed

pub record IsPartway (r : Reading) (b : Building) : Type 0 where
  pub inside : r.at ≤ length (text_of r)
  pub boundary : IsCharBoundary (text_of r) r.at
  pub within : IsWithin (read_of r) b.walk b.state

-- nothing that is left is ready
abbrev pub IsWaiting : Reading → Building → Type 0
IsWaiting r b = ready r.names (mode_of b.state.path) (left_of r) ≡ false

-- want of memory has no cause in the text
abbrev pub StopsAs : List Entry → Building → List PlacedByte → Refused → Type 0
StopsAs t b text (answers.Page rule place) = IsStopped t b text rule place
StopsAs t b text answers.OutOfMemory = Unit {0}

-- ---- a builder that is fed

-- the names of references, the text that is fed, what is built, the first refusal of a token, and whether memory was refused
pub record Feeding : Type 0 where
  pub names : List Entry
  pub pieces : Pieces
  pub building : Building
  pub refused : Option (Rule × ℕ)
  pub is_broken : Bool

-- what is true of each
pub record IsFeeding (f : Feeding) : Type 0 where
  pub sound : f.is_broken ≡ false → f.pieces.is_broken ≡ false
  pub within : f.is_broken ≡ false → f.refused ≡ None → IsWithin (before_text f.pieces.source) f.building.walk f.building.state

-- the page is refused already
abbrev pub is_refused : Feeding → Bool
is_refused f = is_some f.refused || is_some f.pieces.fault

-- what is built of this text, and that left of it; or it is refused
abbrev pub IsBuiltFrom : Option (Rule × ℕ) → List Entry → List PlacedByte → Building → List PlacedByte → Type 0
IsBuiltFrom None t text b left = Comes t first_building text b left
IsBuiltFrom (Some r) t text b left = IsStopped t first_building text r.0 r.1

-- These bytes came; what is built and the text that is kept are theirs. No text is kept of a page that is refused.
pub record HasCome (f : Feeding) (fed : List ℕ) : Type 0 where
  pub gone : List PlacedByte
  pub came : HasFed f.pieces gone fed
  pub empty : is_refused f ≡ true → f.pieces.source.placed ≡ []
  pub built : f.pieces.fault ≡ None → IsBuiltFrom f.refused f.names (decided fed).placed f.building f.pieces.source.placed

-- They came, and all of them that is ready was taken.
pub record HasRead (f : Feeding) (fed : List ℕ) : Type 0 where
  pub come : HasCome f fed
  pub waits : f.pieces.fault ≡ None → f.refused ≡ None → ready f.names (mode_of f.building.state.path) (map byte_of f.pieces.source.placed) ≡ false

-- ---- the end of a page

-- the page has no more bytes
abbrev pub Ends : Pieces → Pieces → Type 0
Ends old new = (gone : List PlacedByte) (page : List ℕ) → HasFed old gone page → HasPage new gone page

-- the page has no more bytes, and is refused so: by its text, or else by a token
abbrev pub EndsAs : Pieces → Pieces → Option (Rule × ℕ) → Refused → Type 0
EndsAs old new refused (answers.Page rule at) = Ends old new × (option_or new.fault refused ≡ Some (rule, at))
EndsAs old new refused answers.OutOfMemory = Unit {0}

-- ---- what is asked

abbrev pub depth_at : Option Standing → ℕ
depth_at None = 0
depth_at (Some k) = length k.state.path

abbrev pub left_at : Option Standing → ℕ
left_at None = 0
left_at (Some k) = length k.left

-- where tree construction stands after all that is ready of the text of these bytes
abbrev pub standing_of : List Entry → List ℕ → Option Standing
standing_of t fed = stands t 0 first_state (map byte_of (decided fed).placed)

-- how many elements are open after all that is ready; 0 where the page is refused
abbrev pub depth : List Entry → ℕ → List ℕ → ℕ
depth t limit fed = if is_some (fault_so_far limit fed) then 0 else depth_at (standing_of t fed)

-- how many bytes of the text aren't ready; 0 where the page is refused
abbrev pub kept : List Entry → ℕ → List ℕ → ℕ
kept t limit fed = if is_some (fault_so_far limit fed) then 0 else left_at (standing_of t fed)

-- the tree of a page, which is refused where it is longer than a limit
abbrev pub page_outcome_within : ℕ → List Entry → List ℕ → Outcome
page_outcome_within limit t page = if nat_lt limit (length page) then refused_by TooLong limit else page_tree t page
