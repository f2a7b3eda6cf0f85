-- What is true of each page of a number.
use Rattle.std.specs.Prelude.{◌≡◌, ℕ, ◌+◌, ◌*◌, ◌^◌, ◌<◌, ◌≤◌, Bool, true, ◌&&◌, nat_lt, List, length, None}
use Rattle.hm_base.specs.Bytes.{all_pass}
use Rattle.hm_base.specs.Source.{is_text_byte, numbered, placed_text, text_fault, text_of}
use Rattle.hm_base.specs.declared.limits.TheConstants.{PAGE_LIMIT}
use Rattle.hm_measure_page.specs.Pages.{page}

-- ASCII other than zero and CR
abbrev pub is_plain : ℕ → Bool
is_plain c = is_text_byte c && nat_lt c 128

abbrev pub PagesArePlain : Type 0
PagesArePlain = (number size : ℕ) → number < 2 ^ 32 → size < 2 ^ 32 → all_pass is_plain (page number size) ≡ true

-- the page has a text, which is the page itself, each byte in its place
pub record IsItsText (s : List ℕ) : Type 0 where
  pub sound : text_fault s ≡ None
  pub places : placed_text s ≡ numbered 0 s
  pub bytes : text_of s ≡ s

abbrev pub PagesAreTexts : Type 0
PagesAreTexts = (number size : ℕ) → number < 2 ^ 32 → size < 2 ^ 32 → IsItsText (page number size)

-- A block has at most 44 bytes with the end of its line, and what stands before the blocks at most 41.
abbrev pub PagesAreShort : Type 0
PagesAreShort = (number size : ℕ) → number < 2 ^ 32 → size < 2 ^ 32 → length (page number size) ≤ 41 + 44 * size

-- So a page of 20,000 blocks is within the limit.
abbrev pub PagesAreWithinLimit : Type 0
PagesAreWithinLimit = (number size : ℕ) → number < 2 ^ 32 → size ≤ 20000 → length (page number size) ≤ PAGE_LIMIT
