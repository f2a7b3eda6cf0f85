-- What a search found in a text.
use Rattle.std.specs.Prelude.{◌≡◌, ℕ, ◌-◌, ◌<◌, ◌≤◌, List, drop, length, slice_index, slice_range, Option, Some, None, MatchOption}
use Rattle.hm_base.specs.Bytes.{Cut}
use Rattle.hm_scan.specs.declared.search.MarkPiece.{MarkPiece}

-- A piece of the text from a place on, and its end after it. The first and the last byte of the end are ASCII.
pub record IsFound (s : List ℕ) (from : ℕ) (cut : Option Cut) (p : MarkPiece) : Type 0 where
  pub starts : p.from ≡ from
  pub ordered : p.from ≤ p.to
  pub ends : p.to < p.after
  pub inside : p.after ≤ length s
  pub first : slice_index s p.to < 128
  pub last : slice_index s (p.after - 1) < 128
  pub is : cut ≡ Some (record { before = slice_range s p.from p.to; after = drop p.after s })

-- the same, for a piece that stands somewhere after a place, directly after an ASCII byte
pub record IsFoundAfter (s : List ℕ) (start : ℕ) (cut : Option Cut) (p : MarkPiece) : Type 0 where
  pub beyond : start < p.from
  pub ascii : slice_index s (p.from - 1) < 128
  pub found : IsFound s p.from cut p

-- The text begins with an end of n bytes, as ends looks for it. Its first and its last byte are ASCII.
pub record IsMarkEnd (ends : List ℕ → Option (List ℕ)) (s : List ℕ) (n : ℕ) : Type 0 where
  pub some : 0 < n
  pub inside : n ≤ length s
  pub first : slice_index s 0 < 128
  pub last : slice_index s (n - 1) < 128
  pub is : ends s ≡ Some (drop n s)

-- the piece that this cut of the text from a place on gives, or none where there is no cut
abbrev pub Finds : List ℕ → ℕ → Option Cut → Option MarkPiece → Type 0
Finds s from cut found = MatchOption found (cut ≡ None) (IsFound s from cut)

-- A place of the text, counted from another one on. An ASCII byte stands there.
pub record IsPlace (s : List ℕ) (from : ℕ) (found : Option ℕ) (to : ℕ) : Type 0 where
  pub ordered : from ≤ to
  pub inside : to < length s
  pub ascii : slice_index s to < 128
  pub is : found ≡ Some (to - from)

-- the place that is found in the text from a place on, or none
abbrev pub FindsPlace : List ℕ → ℕ → Option ℕ → Option ℕ → Type 0
FindsPlace s from found place = MatchOption place (found ≡ None) (IsPlace s from found)
