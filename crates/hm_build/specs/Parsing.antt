-- A page that is being parsed: what was built of its text so far, and what is left.
use Rattle.std.specs.Prelude.{◌≡◌, ℕ, ◌+◌, ◌-◌, ◌*◌, ◌≤◌, ◌<◌, false, List, length, drop, Option, Some, None, if◌then◌else◌}
use Rattle.hm_base.specs.Source.{Source, place_in}
use Rattle.hm_base.specs.Walks.{Event, Element, walk_size}
use Rattle.hm_base.specs.declared.rules.Refused.{Refused}
use Rattle.hm_base.specs.declared.rules.Refused.TheVariants as answers
use Rattle.hm_elements.specs.Paths.{is_in_text}
use Rattle.hm_refs.specs.Names.{Entry}
use Rattle.hm_token_laws.specs.Laws.{IsPlain}
use Rattle.hm_tree.specs.Tokens.{Seen, doctype, start_tag, end_tag, slice, points, comment}
use Rattle.hm_construction_laws.specs.Steps.{Construction}
use Rattle.hm_construction_laws.specs.Closing.{is_after_body, closed_from}
use Rattle.hm_construction_laws.specs.Trees.{Outcome, refused_by, after_events, over, tree_from}
use Rattle.hm_lexer.specs.Reading.{Reading, text_of}
use Rattle.hm_insertion.specs.Building.{Building}
use Rattle.hm_build.specs.declared.page.Taken.{Taken}
use Rattle.hm_build.specs.declared.page.Taken.TheVariants as turns
use Rattle.hm_tree.specs.declared.tokens.Lexeme.{Lexeme}
use Rattle.hm_tree.specs.declared.tokens.Lexeme.TheVariants as lexemes
use Rattle.hm_insertion.specs.declared.fault.BuildFault.{BuildFault}
use Rattle.hm_insertion.specs.declared.fault.BuildFault.TheVariants as faults
use Rattle.hm_construction_laws.specs.Weights.{weight, load, load_size}

-- why there is no tree; lack of memory has no cause in the page
abbrev pub IsRefusedAs : Outcome → Refused → Type 0
IsRefusedAs outcome (answers.Page rule at) = outcome ≡ refused_by rule at
IsRefusedAs outcome answers.OutOfMemory = Unit {0}

-- what was built of the first `read` bytes of a text
pub record IsWithin (read : ℕ) (w : List Event) (st : Construction) : Type 0 where
  pub events : weight w + load st ≤ 3 * read + 13
  pub bytes : walk_size w + load_size st ≤ 6 * read + 12

abbrev pub place_of : Source → ℕ → ℕ
place_of page i = place_in page.placed page.end i

-- a text that is read from its first byte on
abbrev pub reads : List Entry → Source → Reading
reads t text = record { names = t; source = text; at = 0 }

-- what was built so far, and the tree of what is left of the text
abbrev pub left_tree : Reading → Building → Outcome
left_tree r b = after_events b.walk (tree_from r.names (place_of r.source) 0 r.at b.state (drop r.at (text_of r)))

-- how many bytes of the page were read, where the text begins after others
abbrev pub read_of : Reading → ℕ
read_of r = r.source.end - length r.source.placed + r.at

-- a text that is being read into a tree
pub record IsParsing (r : Reading) (b : Building) : Type 0 where
  pub inside : r.at ≤ length (text_of r)
  pub within : IsWithin (read_of r) b.walk b.state
  pub plain : IsPlain (drop r.at (text_of r))

-- no start tag is read inside title, textarea, style, iframe and script
abbrev pub IsReadUnder : List Element → Seen → Type 0
IsReadUnder path (start_tag n attributes slash) = is_in_text path ≡ false
IsReadUnder path (doctype legacy) = Unit {0}
IsReadUnder path (end_tag n) = Unit {0}
IsReadUnder path (slice s) = Unit {0}
IsReadUnder path (points ps) = Unit {0}
IsReadUnder path (comment s) = Unit {0}

-- nothing is left of the text
pub record IsRead (r : Reading) (b : Building) : Type 0 where
  pub ends : left_tree r b ≡ after_events b.walk (over (place_of r.source) (length (text_of r)) b.state)
  pub within : IsWithin (read_of (record r { at = length (text_of r) })) b.walk b.state

-- further on in the same text
pub record IsFurther (old new : Reading) : Type 0 where
  pub names : new.names ≡ old.names
  pub source : new.source ≡ old.source
  pub forward : old.at < new.at
  pub inside : new.at ≤ length (text_of new)

-- the byte of the page where body is closed in what is left of the text
abbrev pub closed_left : Reading → Building → Option ℕ
closed_left r b = closed_from r.names (place_of r.source) 0 r.at b.state (drop r.at (text_of r))

-- the place of a token after which body is closed
abbrev pub closed_here : Building → Source → ℕ → Option ℕ
closed_here after page from = if is_after_body after.state.insertion_mode then Some (place_of page from) else None

-- the first of two places
abbrev pub first_of : Option ℕ → Option ℕ → Option ℕ
first_of (Some at) later = Some at
first_of None later = later

-- The token that begins at byte `from` of the text closes body, or body is closed in what is left after it, if at all.
pub record ClosesAt (old : Reading) (b : Building) (from : ℕ) (new : Reading) (after : Building) : Type 0 where
  pub inside : from ≤ length old.source.placed
  pub is : closed_left old b ≡ first_of (closed_here after old.source from) (closed_left new after)

-- where body isn't closed yet, it isn't closed by the token either
pub record StaysOpen (old : Reading) (b : Building) (new : Reading) (after : Building) : Type 0 where
  pub open_still : is_after_body after.state.insertion_mode ≡ false
  pub is : closed_left old b ≡ closed_left new after

-- where no place is known at which body is closed, it is open still
abbrev pub KnowsClosed : Option ℕ → Building → Type 0
KnowsClosed closed b = closed ≡ None → is_after_body b.state.insertion_mode ≡ false

-- The place where body is closed is known by now, or it is closed in what is left.
pub record ClosesOn (before : Option ℕ) (old : Reading) (b : Building) (by_now : Option ℕ) (new : Reading) (after : Building) : Type 0 where
  pub is : first_of before (closed_left old b) ≡ first_of by_now (closed_left new after)
  pub open_still : KnowsClosed by_now after

-- what a turn takes with a token
abbrev pub taken_by : Lexeme → ℕ → Taken
taken_by lexemes.EndTag from = turns.EndTag from
taken_by lexeme from = turns.Other

-- A token was taken, and the tree goes on after it.
pub record GoesOn (old : Reading) (b : Building) (new : Reading) (after : Building) : Type 0 where
  pub parsing : IsParsing new after
  pub ahead : IsFurther old new
  pub tree : left_tree old b ≡ left_tree new after

-- what a turn has done
abbrev pub IsTurned : Taken → Reading → Building → Reading → Building → Type 0
IsTurned turns.Over old b new after = IsRead old b × (new ≡ old) × (after ≡ b) × (closed_left old b ≡ None)
IsTurned turns.Other old b new after = GoesOn old b new after × (is_after_body b.state.insertion_mode ≡ false → StaysOpen old b new after)
IsTurned (turns.EndTag from) old b new after = GoesOn old b new after × ClosesAt old b from new after

-- the refusal that a fault gives, and how far after its token's first byte it is
abbrev pub answer_of : BuildFault → ℕ → Refused
answer_of (faults.Rule rule offset) at = answers.Page rule at
answer_of faults.OutOfMemory at = answers.OutOfMemory

abbrev pub span_of : BuildFault → ℕ
span_of (faults.Rule rule offset) = offset
span_of faults.OutOfMemory = 0
