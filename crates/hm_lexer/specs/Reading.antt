-- A text that is read token by token, and what is returned of the next one.
use Rattle.std.specs.Prelude.{◌≡◌, ◌≢◌, ℕ, ◌+◌, ◌<◌, ◌≤◌, Bool, true, false, ◌&&◌, if◌then◌else◌, List, length, drop, map, Option, MatchOption}
use Rattle.hm_base.specs.Source.{Source, byte_of, place_in}
use Rattle.hm_base.specs.declared.rules.Refused.{Refused}
use Rattle.hm_base.specs.declared.rules.Refused.TheVariants as answers
use Rattle.hm_base.specs.declared.rules.Rule.{Rule}
use Rattle.hm_refs.specs.Names.{Entry}
use Rattle.hm_scan.specs.Comments.{begins_cdata, comment_front}
use Rattle.hm_scan.specs.Texts.{begins_markup}
use Rattle.hm_tree.specs.Tokens.{taken, refused, seen, BeginsAt, IsInText}
use Rattle.hm_tree.specs.declared.tokens.ScanFault.{ScanFault}
use Rattle.hm_tree.specs.declared.tokens.ScanFault.TheVariants as faults
use Rattle.hm_tree.specs.declared.tokens.Spanned.{Spanned}
use Rattle.hm_token_laws.specs.First.{Mode, ordinary, in_svg, rcdata, raw, script, Next, at_end, after_bytes, first, rule_of}

-- the names of character references, the text with its places, and how many bytes of the text were taken
pub record Reading : Type 0 where
  pub names : List Entry
  pub source : Source
  pub at : ℕ

-- the bytes of the text
abbrev pub text_of : Reading → List ℕ
text_of r = map byte_of r.source.placed

-- what stands next
abbrev pub next_of : Reading → Mode → Next
next_of r mode = first r.names mode (drop r.at (text_of r))

-- how many bytes of the markup that begins here stand before the text of its token: `<![CDATA[`, or what opens a comment
abbrev pub markup_front : Bool → List ℕ → ℕ
markup_front foreign s = if foreign && begins_cdata s then 9 else comment_front s

abbrev pub front_here : Bool → List ℕ → ℕ
front_here foreign s = if begins_markup s then markup_front foreign s else 0

-- how many bytes of what stands here come before the text that its token names: none, but of markup
abbrev pub text_front : Mode → List ℕ → ℕ
text_front ordinary s = front_here false s
text_front in_svg s = front_here true s
text_front (rcdata name) s = 0
text_front (raw name) s = 0
text_front script s = 0

-- This token stands next, and was taken: it begins after `passed` bytes that stand for nothing.
pub record IsTaken (old : Reading) (mode : Mode) (token : Spanned) (new : Reading) : Type 0 where
  pub passed : ℕ
  pub is : next_of old mode ≡ after_bytes passed (taken (seen (text_of old) token.token) (drop token.to (text_of old)))
  pub from : token.from ≡ old.at + passed
  pub moved : new ≡ record old { at = token.to }
  pub forward : token.from < token.to
  pub inside : token.to ≤ length (text_of old)
  pub pieces : IsInText (text_of old) token.token
  pub places : BeginsAt (token.from + text_front mode (drop token.from (text_of old))) token.token

-- the next token, or none where the text ends
abbrev pub Gives : Reading → Mode → Option Spanned → Reading → Type 0
Gives old mode token new = MatchOption token ((next_of old mode ≡ at_end) × (new ≡ old)) (λ token. IsTaken old mode token new)

-- What stands next has a fault of this rule. Its place is that of its first byte in the page.
pub record IsFaulty (old : Reading) (mode : Mode) (rule : Rule) (place : ℕ) : Type 0 where
  pub passed : ℕ
  pub fault : ScanFault
  pub is : next_of old mode ≡ after_bytes passed (refused fault)
  pub of_text : fault ≢ faults.OutOfMemory
  pub rule_is : rule ≡ rule_of fault
  pub place_is : place ≡ place_in old.source.placed old.source.end (old.at + passed)

-- why the next token is refused; lack of memory has no cause in the text
abbrev pub Refuses : Reading → Mode → Refused → Type 0
Refuses old mode (answers.Page rule place) = IsFaulty old mode rule place
Refuses old mode answers.OutOfMemory = Unit {0}
