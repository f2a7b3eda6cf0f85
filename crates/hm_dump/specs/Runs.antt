-- Bytes that stand for themselves inside quotes.
use Rattle.std.specs.Prelude.{◌≡◌, ℕ, ◌≤◌, ◌<◌, Bool, false, ◌||◌, ◌==◌, List, get_or}

-- a byte that is escaped inside quotes
unfoldable pub is_escaped : ℕ → Bool
is_escaped c = c == 34 || c == 92 || c == 10 || c == 13 || c == 9

-- none of the bytes from a place up to another is escaped
abbrev pub IsPlainRun : List ℕ → ℕ → ℕ → Type 0
IsPlainRun s from to = (k : ℕ) → from ≤ k → k < to → is_escaped (get_or s k 0) ≡ false
