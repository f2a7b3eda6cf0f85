-- Numbers of numeric character references (HTML Standard, #numeric-character-reference-end-state).
use Rattle.std.specs.Prelude.{ℕ, ◌&&◌, ◌||◌, ◌==◌, nat_le, nat_lt, List, [], ◌∷◌, Option, Some, None, if◌then◌else◌}

-- the numbers of C1 controls that stand for another code point
abbrev pub replaced : List (ℕ × ℕ)
replaced =
    (0x80, 0x20AC) ∷ (0x82, 0x201A) ∷ (0x83, 0x0192) ∷ (0x84, 0x201E) ∷ (0x85, 0x2026) ∷ (0x86, 0x2020) ∷ (0x87, 0x2021) ∷ (0x88, 0x02C6) ∷ (0x89, 0x2030)
    ∷ (0x8A, 0x0160) ∷ (0x8B, 0x2039) ∷ (0x8C, 0x0152) ∷ (0x8E, 0x017D) ∷ (0x91, 0x2018) ∷ (0x92, 0x2019) ∷ (0x93, 0x201C) ∷ (0x94, 0x201D) ∷ (0x95, 0x2022)
    ∷ (0x96, 0x2013) ∷ (0x97, 0x2014) ∷ (0x98, 0x02DC) ∷ (0x99, 0x2122) ∷ (0x9A, 0x0161) ∷ (0x9B, 0x203A) ∷ (0x9C, 0x0153) ∷ (0x9E, 0x017E) ∷ (0x9F, 0x0178) ∷ []

abbrev pub look_up : ℕ → List (ℕ × ℕ) → Option ℕ
look_up n [] = None
look_up n (p ∷ ps) = if p.0 == n then Some p.1 else look_up n ps

-- the number that stands for c
abbrev pub look_back : ℕ → List (ℕ × ℕ) → Option ℕ
look_back c [] = None
look_back c (p ∷ ps) = if p.1 == c then Some p.0 else look_back c ps

abbrev pub or_number : Option ℕ → ℕ → ℕ
or_number None n = n
or_number (Some m) n = m

-- the code point of a numeric reference: U+FFFD for zero, a surrogate and what is above U+10FFFF
unfoldable pub point_of : ℕ → ℕ
point_of n = if n == 0 || (nat_le 0xD800 n && nat_le n 0xDFFF) || nat_lt 0x10FFFF n then 0xFFFD else or_number (look_up n replaced) n

abbrev pub or_itself : Option ℕ → ℕ → Option ℕ
or_itself (Some n) c = Some n
or_itself None c = if point_of c == c then Some c else None

-- the least number that gives c, if one does
unfoldable pub best_number : ℕ → Option ℕ
best_number c = if c == 0xFFFD then Some 0 else or_itself (look_back c replaced) c
