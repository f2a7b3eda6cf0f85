-- A builder that looks for tokens at growing intervals.
use Rattle.std.specs.Prelude.{ℕ, ◌≡◌, ◌*◌, ◌≤◌, List, ◌++◌, length}
use Rattle.hm_build.specs.Feeding.{Feeding, HasCome, HasRead, kept}

-- the builder, how many bytes of the text it kept when it took what was ready, and how many have come since
pub record Spaced : Type 0 where
  pub feeding : Feeding
  pub kept : ℕ
  pub since : ℕ

-- what is true of each
abbrev pub IsSpacedWithin : Spaced → Type 0
IsSpacedWithin s = s.since ≤ 3 * s.kept

-- These bytes were taken. Of the first ones all that is ready was taken into the tree; only text has come since.
pub record HasTaken (s : Spaced) (taken : List ℕ) : Type 0 where
  pub come : HasCome s.feeding taken
  pub scanned : Feeding
  pub read : List ℕ
  pub has_read : HasRead scanned read
  pub later : List ℕ
  pub is : taken ≡ read ++ later
  pub count : s.since ≡ length later
  pub building : s.feeding.building ≡ scanned.building
  pub refused : s.feeding.refused ≡ scanned.refused
  pub keeps : s.kept ≡ kept s.feeding.names s.feeding.pieces.limit read

-- At most three times as many bytes have come since as were kept then.
abbrev pub IsSpaced : Spaced → Type 0
IsSpaced s = (taken : List ℕ) → (h : HasTaken s taken) → length h.later ≤ 3 * kept s.feeding.names s.feeding.pieces.limit h.read
