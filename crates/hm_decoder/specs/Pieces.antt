-- A text that is fed: what it knows of the pieces of a page that came, and what it keeps of their text.
use Rattle.std.specs.Prelude.{◌≡◌, ℕ, ◌+◌, ◌-◌, ◌<◌, ◌≤◌, Bool, false, nat_lt, ◌==◌, List, ◌++◌, length, drop, Option, Some, None, if◌then◌else◌}
use Rattle.hm_base.specs.Source.{PlacedByte, Source, Refusal, source_of, text_fault}
use Rattle.hm_base.specs.Places.{with_lines}
use Rattle.hm_base.specs.declared.rules.Rule.{Rule}
use Rattle.hm_base.specs.declared.rules.Rule.TheVariants as rules
use Rattle.hm_base.specs.declared.limits.TheConstants.{OUTPUT_LIMIT}
use Rattle.hm_decoder.specs.Fed.{lasting_fault, decided, decided_len}

-- a rule and a place, as a call tells them; the bytes begin at the place n of the page
abbrev pub told_at : ℕ → Option Refusal → Option (Rule × ℕ)
told_at n None = None
told_at n (Some r) = Some (r.rule, n + r.at)

-- why a page that begins with these bytes has no text, whatever follows
abbrev pub fault_so_far : ℕ → List ℕ → Option (Rule × ℕ)
fault_so_far limit s = if nat_lt limit (length s) then Some (rules.TooLong, limit) else told_at 0 (lasting_fault s)

-- why these bytes as a page have no text
abbrev pub fault_of_page : ℕ → List ℕ → Option (Rule × ℕ)
fault_of_page limit s = if nat_lt limit (length s) then Some (rules.TooLong, limit) else told_at 0 (text_fault s)

-- a text, and after it what comes next in the page; a byte order mark is dropped where the page begins with it
abbrev pub grown : Source → List ℕ → Source
grown v s = if v.end == 0 then source_of s else with_lines v s

-- how many bytes of the page stand before the text or were put into its line ends
abbrev pub before_text : Source → ℕ
before_text v = v.end - length v.placed

-- the text that is kept, the bytes that aren't decided, how many bytes came, and why the page has no text
pub record Pieces : Type 0 where
  pub source : Source
  pub undecided : List ℕ
  pub count : ℕ
  pub limit : ℕ
  pub fault : Option (Rule × ℕ)
  pub is_broken : Bool

-- what is true of each
pub record IsPieces (p : Pieces) : Type 0 where
  pub within : p.is_broken ≡ false → p.fault ≡ None → p.source.end + length p.undecided ≤ p.count
  pub counted : p.count ≤ p.limit
  pub short : p.limit ≤ OUTPUT_LIMIT

-- Of the bytes that came this text was let go, and the rest is kept.
pub record HasText (p : Pieces) (gone : List PlacedByte) (fed : List ℕ) : Type 0 where
  pub placed : (decided fed).placed ≡ gone ++ p.source.placed
  pub end : p.source.end ≡ decided_len fed
  pub undecided : p.undecided ≡ drop (decided_len fed) fed

-- These bytes came, and this text of them was let go.
pub record HasFed (p : Pieces) (gone : List PlacedByte) (fed : List ℕ) : Type 0 where
  pub fault : p.fault ≡ fault_so_far p.limit fed
  pub count : length fed ≤ p.limit → p.count ≡ length fed
  pub over : p.limit < length fed → p.count ≡ p.limit
  pub text : p.fault ≡ None → HasText p gone fed

-- This is the whole page, and this text of it was let go.
pub record HasPage (p : Pieces) (gone : List PlacedByte) (page : List ℕ) : Type 0 where
  pub fault : p.fault ≡ fault_of_page p.limit page
  pub placed : p.fault ≡ None → (source_of page).placed ≡ gone ++ p.source.placed
  pub end : p.fault ≡ None → p.source.end ≡ length page
