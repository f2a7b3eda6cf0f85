-- Plain characters: as themselves they stand in every text and value, and no reference to one is shorter than four bytes.
use Rattle.std.specs.Prelude.{ℕ, Bool, true, false, not, ◌&&◌, ◌||◌, ◌==◌, nat_le, List, [], ◌∷◌, length, codes}
use Rattle.std.specs.List.{list_all}
use Rattle.hm_base.specs.Bytes.{some_passes}
use Rattle.hm_refs.specs.Names.{Entry}
use Rattle.hm_refs.specs.Tables.{is_for}

-- letters, digits, and the marks of ASCII that are neither quotes nor '&', '<', '=', '>' or a grave accent
abbrev pub plain_bytes : List ℕ
plain_bytes = codes "ABCDEFGHIJKLMNOPQRSTUVWXYZabcdefghijklmnopqrstuvwxyz0123456789!#$%()*+,-./:;?@[\\]^_{|}~"

-- c is one of these
unfoldable pub is_plain_byte : ℕ → Bool
is_plain_byte c = some_passes (λ d. d == c) plain_bytes

-- one code point
abbrev pub is_single : List ℕ → Bool
is_single [] = false
is_single (p ∷ []) = true
is_single (p ∷ q ∷ ps) = false

-- one code point, and a name of at least four bytes, the '&' included
abbrev pub is_long : Entry → Bool
is_long e = is_single e.points && nat_le 4 (length e.name)

-- where c is the name's first code point, it is the only one, and the name has at least four bytes
unfoldable pub allows : ℕ → Entry → Bool
allows c e = not (is_for c e) || is_long e

-- one of these bytes, which each name of the table allows
abbrev pub is_plain : List Entry → ℕ → Bool
is_plain t c = is_plain_byte c && list_all (allows c) t
