-- How prices are kept: as numbers, of which the greatest is a closed price, in one list for all rows.
use Rattle.std.specs.Prelude.{ℕ, ◌==◌, ◌≤◌, ◌≡◌, List, [], ◌∷◌, Option, Some, None, if◌then◌else◌, map, slice_range}

-- the price that a number stands for
abbrev pub told : ℕ → Option ℕ
told number = if number == 18446744073709551615 then None else Some number

-- the rows of a list of numbers, from a place on, by the places where they end
abbrev pub rows_from : List ℕ → ℕ → List ℕ → List (List (Option ℕ))
rows_from numbers start [] = []
rows_from numbers start (end ∷ ends) = map told (slice_range numbers start end) ∷ rows_from numbers end ends

-- the ends ascend from a place on, and the last of them is the end of the list
abbrev pub EndsAscend : ℕ → List ℕ → ℕ → Type 0
EndsAscend start [] total = start ≡ total
EndsAscend start (end ∷ ends) total = (start ≤ end) × EndsAscend end ends total
