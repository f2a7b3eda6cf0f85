-- The rows of a certificate that was read, and places between them.
use Rattle.std.specs.Prelude.{ℕ, ◌≡◌, ◌≢◌, ◌+◌, ◌≤◌, ◌<◌, ⊤, List, [], Result, Ok, Err, length, take, slice_index}
use Rattle.hm_cert.specs.declared.lines.CertificateFault.{CertificateFault}
use Rattle.hm_cert.specs.declared.lines.CertificateFault.TheVariants.{TooLong, BadLine, OutOfMemory}
use Rattle.hm_cert.specs.declared.kept.RowPlace.{RowPlace}
use Rattle.hm_cert.specs.Certificate.{Row, AreRows, row_lines}
use Rattle.hm_cert.specs.Reading.{rows_in}

abbrev pub rows_or_none : Result (List Row) ℕ → List Row
rows_or_none (Ok rows) = rows
rows_or_none (Err bad) = []

-- the rows whose lines a text is
unfoldable pub rows_of : List ℕ → List Row
rows_of text = rows_or_none (rows_in 3 text)

-- a text is the lines of `count` rows
pub record AreLines (text : List ℕ) (count : ℕ) : Type 0 where
  pub lines : row_lines (rows_of text) ≡ text
  pub written : AreRows (rows_of text)
  pub counted : count ≡ length (rows_of text)

-- the lines of the rows before the place have `place.at` bytes
abbrev pub IsRowPlace : List Row → RowPlace → Type 0
IsRowPlace rows place = (place.row ≤ length rows) × (place.at ≡ length (row_lines (take place.row rows)))

-- the place after the last line feed before `end`, or the first place where there is none
pub record IsLineStart (text : List ℕ) (end at : ℕ) : Type 0 where
  pub within : at ≤ end
  pub none : (k : ℕ) → at ≤ k → k < end → slice_index text k ≢ 10
  pub after : 0 < at → (k : ℕ) → k + 1 ≡ at → slice_index text k ≡ 10

-- the rows that an answer counts
pub record AreSoMany (left : Result (List Row) ℕ) (count : ℕ) : Type 0 where
  pub rows : List Row
  pub are : left ≡ Ok rows
  pub counted : count ≡ length rows

-- what a count of the rows that are left says
abbrev pub AreCounted : Result (List Row) ℕ → Result ℕ CertificateFault → Type 0
AreCounted left (Ok count) = AreSoMany left count
AreCounted left (Err (BadLine line)) = left ≡ Err line
AreCounted left (Err TooLong) = ⊥
AreCounted left (Err OutOfMemory) = ⊤
