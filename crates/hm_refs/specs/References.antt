-- Character references (HTML Standard, #character-reference-state to #numeric-character-reference-end-state).
use Rattle.std.specs.Prelude.{ℕ, ◌+◌, Bool, not, ◌&&◌, ◌||◌, ◌==◌, List, [], ◌∷◌, length, Option, Some, None, if◌then◌else◌, codes}
use Rattle.std.specs.Str.Parse.{digits_value}
use Rattle.hm_base.specs.Bytes.{front, rest_after, strip, head_is, is_digit, is_hex, is_alnum}
use Rattle.hm_refs.specs.Names.{Entry, Found, is_closed, longest}
use Rattle.hm_refs.specs.Numbers.{point_of}

-- the code points that a reference gives, and how many bytes it has
pub record Reference : Type 0 where
  pub points : List ℕ
  pub len : ℕ

-- the number that digits of a base write
unfoldable pub value_of : ℕ → List ℕ → ℕ
value_of base ds = digits_value base ds

abbrev pub is_semicolon : ℕ → Bool
is_semicolon c = 59 == c

-- digits, and a ';' that follows them; `before` bytes stand before the digits
abbrev pub numeric : ℕ → ℕ → List ℕ → List ℕ → Option Reference
numeric before base [] rest = None
numeric before base (d ∷ ds) rest = Some (record { points = point_of (value_of base (d ∷ ds)) ∷ []; len = before + length (d ∷ ds) + (if head_is is_semicolon rest then 1 else 0) })

abbrev pub decimal_number : List ℕ → Option Reference
decimal_number s = numeric 2 10 (front is_digit s) (rest_after is_digit s)

abbrev pub hexadecimal : List ℕ → Option Reference
hexadecimal s = numeric 3 16 (front is_hex s) (rest_after is_hex s)

-- the number after '&#'
abbrev pub hash : List ℕ → Option Reference
hash [] = None
hash (c ∷ s) = if 120 == c || 88 == c then hexadecimal s else decimal_number (c ∷ s)

-- '=', a letter or a digit: what keeps a name without ';' from being a reference in an attribute value
abbrev pub blocks : ℕ → Bool
blocks c = 61 == c || is_alnum c

unfoldable pub is_blocked : Bool → Found → Bool
is_blocked value f = value && not (is_closed f.name) && head_is blocks f.rest

-- the reference by a name that was found; value says whether it stands in an attribute value
abbrev pub named : Bool → Option Found → Option Reference
named value None = None
named value (Some f) = if is_blocked value f then None else Some (record { points = f.points; len = length f.name })

abbrev pub reference_by : List Entry → Bool → Option (List ℕ) → List ℕ → Option Reference
reference_by t value (Some s) whole = hash s
reference_by t value None whole = named value (longest t whole)

-- the reference at the start of a text that begins with '&'
unfoldable pub reference : List Entry → Bool → List ℕ → Option Reference
reference t value s = reference_by t value (strip (codes "&#") s) s
