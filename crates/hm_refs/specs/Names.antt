-- The names of a table, and the longest of them that a text begins with. A name is the list of its bytes, the '&' included.
use Rattle.std.specs.Prelude.{ℕ, Bool, true, false, ◌&&◌, ◌||◌, ◌==◌, nat_le, List, [], ◌∷◌, ◌++◌, length, Option, Some, None, if◌then◌else◌, is_some, bytes_eq}
use Rattle.hm_base.specs.Bytes.{is_letter, is_alnum, is_null}
use Rattle.hm_refs.specs.declared.limits.TheConstants.{LENGTH_LIMIT}

-- a name, and the one or two code points that it stands for
pub record Entry : Type 0 where
  pub name : List ℕ
  pub points : List ℕ

-- the points of a name
abbrev pub points_of : List Entry → List ℕ → Option (List ℕ)
points_of [] q = None
points_of (e ∷ t) q = if bytes_eq e.name q then Some e.points else points_of t q

unfoldable pub is_name : List Entry → List ℕ → Bool
is_name t q = is_some (points_of t q)

-- whether s begins with q
abbrev pub begins : List ℕ → List ℕ → Bool
begins [] s = true
begins (c ∷ q) [] = false
begins (c ∷ q) (d ∷ s) = c == d && begins q s

-- whether a name begins with q
abbrev pub is_front : List Entry → List ℕ → Bool
is_front [] q = false
is_front (e ∷ t) q = if begins q e.name then true else is_front t q

-- q with one byte more, where a name begins so
unfoldable pub child_of : List Entry → List ℕ → ℕ → Option (List ℕ)
child_of t q c = if is_front t (q ++ c ∷ []) then Some (q ++ c ∷ []) else None

-- a name at the start of a text, its points, and what follows it
pub record Found : Type 0 where
  pub name : List ℕ
  pub points : List ℕ
  pub rest : List ℕ

abbrev pub or_else : Option Found → Option Found → Option Found
or_else None b = b
or_else (Some a) b = Some a

abbrev pub found_by : List ℕ → List ℕ → Option (List ℕ) → Option Found
found_by q s None = None
found_by q s (Some ps) = Some (record { name = q; points = ps; rest = s })

-- q itself at the start of q ++ s, where it is a name
unfoldable pub found_here : List Entry → List ℕ → List ℕ → Option Found
found_here t q s = found_by q s (points_of t q)

-- the longest prefix of q ++ s, no shorter than q, that is a name
abbrev pub found : List Entry → List ℕ → List ℕ → Option Found
found t q [] = found_here t q []
found t q (c ∷ s) = or_else (found t (q ++ c ∷ []) s) (found_here t q (c ∷ s))

-- the longest prefix of q ++ s, longer than q, that is a name
abbrev pub found_longer : List Entry → List ℕ → List ℕ → Option Found
found_longer t q [] = None
found_longer t q (c ∷ s) = found t (q ++ c ∷ []) s

-- the longest name that s begins with
abbrev pub longest : List Entry → List ℕ → Option Found
longest t s = found t [] s

-- the last byte is c
abbrev pub last_is : ℕ → List ℕ → Bool
last_is c [] = false
last_is c (d ∷ []) = c == d
last_is c (d ∷ e ∷ s) = last_is c (e ∷ s)

-- the name ends in ';'
abbrev pub is_closed : List ℕ → Bool
is_closed n = last_is 59 n

-- letters and digits to the end, and maybe a ';' after them
abbrev pub is_tail : List ℕ → Bool
is_tail [] = true
is_tail (c ∷ s) = (is_alnum c && is_tail s) || (c == 59 && is_null s)

-- '&', a letter, a letter or digit, and a tail
abbrev pub is_good : List ℕ → Bool
is_good [] = false
is_good (a ∷ []) = false
is_good (a ∷ b ∷ []) = false
is_good (a ∷ b ∷ c ∷ s) = a == 38 && (is_letter b && (is_alnum c && is_tail s))

-- and it is no longer than a name may be
abbrev pub is_good_name : List ℕ → Bool
is_good_name n = is_good n && nat_le (length n) LENGTH_LIMIT
