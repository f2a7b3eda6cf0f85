-- Tokens and pieces of a text that goes on, and what is answered of the next one.
use Rattle.std.specs.Prelude.{◌≡◌, ℕ, ◌+◌, ◌<◌, ◌≤◌, Bool, true, false, not, ◌&&◌, List, [], ◌∷◌, length, drop, slice_index, slice_range, Option, MatchOption, IsCharBoundary}
use Rattle.hm_base.specs.Source.{place_in}
use Rattle.hm_base.specs.declared.rules.Refused.{Refused}
use Rattle.hm_base.specs.declared.rules.Refused.TheVariants as answers
use Rattle.hm_base.specs.declared.rules.Rule.{Rule}
use Rattle.hm_refs.specs.Names.{Entry}
use Rattle.hm_scan.specs.Texts.{ends_plain}
use Rattle.hm_tree.specs.Tokens.{taken, refused, seen, IsInText}
use Rattle.hm_tree.specs.declared.tokens.ScanFault.{ScanFault}
use Rattle.hm_tree.specs.declared.tokens.Spanned.{Spanned}
use Rattle.hm_token_laws.specs.First.{Mode, after_bytes, first, rule_of}
use Rattle.hm_lexer.specs.Ready.{is_told, plain_piece, next_ready, ready, part}
use Rattle.hm_lexer.specs.Reading.{Reading, text_of}

-- what is left of the text
abbrev pub left_of : Reading → List ℕ
left_of r = drop r.at (text_of r)

-- This token, or this piece of a text, is ready and was taken.
pub record IsPart (old : Reading) (mode : Mode) (token : Spanned) (new : Reading) : Type 0 where
  pub passed : ℕ
  pub is_ready : ready old.names mode (left_of old) ≡ true
  pub is : part old.names mode (left_of old) ≡ after_bytes passed (taken (seen (text_of old) token.token) (drop token.to (text_of old)))
  pub from : token.from ≡ old.at + passed
  pub moved : new ≡ record old { at = token.to }
  pub forward : token.from < token.to
  pub inside : token.to ≤ length (text_of old)
  pub boundary : IsCharBoundary (text_of old) token.to
  pub pieces : IsInText (text_of old) token.token

-- the next token, or none where nothing is ready
abbrev pub GivesPart : Reading → Mode → Option Spanned → Reading → Type 0
GivesPart old mode token new = MatchOption token ((ready old.names mode (left_of old) ≡ false) × (new ≡ old)) (λ token. IsPart old mode token new)

-- What stands next is ready and has this fault.
pub record IsPartFaulty (old : Reading) (mode : Mode) (rule : Rule) (place : ℕ) : Type 0 where
  pub passed : ℕ
  pub fault : ScanFault
  pub is_ready : ready old.names mode (left_of old) ≡ true
  pub is : part old.names mode (left_of old) ≡ after_bytes passed (refused fault)
  pub rule_is : rule ≡ rule_of fault
  pub inside : old.at + passed < length (text_of old)
  pub place_is : place ≡ place_in old.source.placed old.source.end (old.at + passed)

abbrev pub RefusesPart : Reading → Mode → Refused → Type 0
RefusesPart old mode (answers.Page rule place) = IsPartFaulty old mode rule place
RefusesPart old mode answers.OutOfMemory = Unit {0}

-- no piece is taken of what stands next, and it is ready where its end is there
abbrev pub IsWhole : List Entry → Mode → List ℕ → Type 0
IsWhole t mode s = (part t mode s ≡ first t mode s) × (ready t mode s ≡ next_ready (first t mode s))

-- ---- ordinary text

-- what is there tells whether markup or a reference begins here
abbrev pub is_told_here : List ℕ → Bool
is_told_here [] = false
is_told_here (c ∷ s) = is_told c s

-- the byte here stands for itself, whatever follows
abbrev pub stays_plain : List Entry → List ℕ → Bool
stays_plain t [] = false
stays_plain t (c ∷ s) = is_told c s && not (ends_plain t false c s)

-- The piece of text from one place on ends at another, before an ASCII byte or with the whole text.
pub record IsPieceTo (t : List Entry) (s : List ℕ) (from to : ℕ) : Type 0 where
  pub forward : from ≤ to
  pub inside : to ≤ length s
  pub is : plain_piece t (drop from s) ≡ slice_range s from to
  pub ascii : to < length s → slice_index s to < 128
