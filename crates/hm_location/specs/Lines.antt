-- The line and the column of a byte of a text. A line ends with LF, with CR, or with CR LF.
use Rattle.std.specs.Prelude.{ℕ, zero, suc, ◌+◌, Bool, not, ◌&&◌, ◌||◌, ◌==◌, List, [], ◌∷◌, ◌++◌, if◌then◌else◌}
use Rattle.std.specs.Fmt.{char_count}

-- c, with s after it, ends a line: a CR before an LF doesn't, since the LF does
abbrev pub ends_line : ℕ → List ℕ → Bool
ends_line c [] = c == 10 || c == 13
ends_line c (d ∷ s) = c == 10 || (c == 13 && not (d == 10))

-- how many of the first n bytes end a line
abbrev pub line_ends : ℕ → List ℕ → ℕ
line_ends zero s = 0
line_ends (suc n) [] = 0
line_ends (suc n) (c ∷ s) = (if ends_line c s then 1 else 0) + line_ends n s

-- the line of the byte at a place, counted from 1; the bytes that end a line are of it
unfoldable pub line_of : List ℕ → ℕ → ℕ
line_of s at = 1 + line_ends at s

-- with the bytes q of its line before it: the bytes of the line of the byte n of s that stand before that byte
abbrev pub front_from : List ℕ → ℕ → List ℕ → List ℕ
front_from q zero s = q
front_from q (suc n) [] = q
front_from q (suc n) (c ∷ s) = front_from (if ends_line c s then [] else q ++ c ∷ []) n s

-- the bytes of the line of the byte at a place that stand before it
abbrev pub line_front : List ℕ → ℕ → List ℕ
line_front s at = front_from [] at s

-- without a byte order mark, EF BB BF, at its start
abbrev pub without_mark : List ℕ → List ℕ
without_mark [] = []
without_mark (a ∷ []) = a ∷ []
without_mark (a ∷ b ∷ []) = a ∷ b ∷ []
without_mark (a ∷ b ∷ c ∷ q) = if a == 0xEF && (b == 0xBB && c == 0xBF) then q else a ∷ b ∷ c ∷ q

-- how many columns the start of a line takes: its characters, but for a byte order mark, which isn't seen
unfoldable pub columns : List ℕ → ℕ
columns q = char_count (without_mark q)

-- The column of the byte at a place, counted from 1: how many characters of its line begin before it. Where what stands
-- before it is UTF-8, each of these is whole.
unfoldable pub column_of : List ℕ → ℕ → ℕ
column_of s at = 1 + columns (line_front s at)
