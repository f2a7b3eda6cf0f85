-- When the bytes of a page have no text.
use Rattle.std.specs.Prelude.{ℕ, ◌≡◌, ◌<◌, ◌≤◌, List, length, nat_lt, Option, Some, None, if◌then◌else◌}
use Rattle.hm_base.specs.Source.{Refusal, text_fault, refusal_at}
use Rattle.hm_base.specs.declared.rules.Refused.{Refused}
use Rattle.hm_base.specs.declared.rules.Refused.TheVariants as refused
use Rattle.hm_base.specs.declared.rules.Rule.TheVariants as rules
use Rattle.hm_base.specs.declared.source.TextFault.{TextFault}
use Rattle.hm_base.specs.declared.source.TextFault.TheVariants.{TooLong, NotUtf8, Nul, OutOfMemory}

-- the page is within the limit and has a text
pub record HasText (limit : ℕ) (page : List ℕ) : Type 0 where
  pub short : length page ≤ limit
  pub sound : text_fault page ≡ None

-- what is true of a page with this fault, and of no page with another
abbrev pub IsRefusedBy : TextFault → ℕ → List ℕ → Type 0
IsRefusedBy TooLong limit page = limit < length page
IsRefusedBy (NotUtf8 at) limit page = (length page ≤ limit) × (text_fault page ≡ Some (refusal_at rules.NotUtf8 at))
IsRefusedBy (Nul at) limit page = (length page ≤ limit) × (text_fault page ≡ Some (refusal_at rules.Nul at))
IsRefusedBy OutOfMemory limit page = HasText limit page

-- why a page of at most so many bytes has no text: it is longer, or by its first fault
abbrev pub page_fault : ℕ → List ℕ → Option Refusal
page_fault limit page = if nat_lt limit (length page) then Some (refusal_at rules.TooLong limit) else text_fault page

-- a page is refused so
abbrev pub IsRefusalOf : Refused → ℕ → List ℕ → Type 0
IsRefusalOf (refused.Page rule at) limit page = page_fault limit page ≡ Some (refusal_at rule at)
IsRefusalOf refused.OutOfMemory limit page = HasText limit page
