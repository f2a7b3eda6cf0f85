-- What a byte does to what is pending, and what the bytes that follow have to keep.
use Rattle.std.specs.Prelude.{◌≡◌, ℕ, Bool, true, false, not, ◌&&◌, ◌||◌, ◌==◌, List, [], ◌∷◌, ◌++◌, Option, Some, None, if◌then◌else◌, is_none, bytes_eq}
use Rattle.hm_base.specs.Bytes.{head_is, is_digit, is_hex, is_null}
use Rattle.hm_refs.specs.Names.{Entry, is_name, is_front, found, found_longer, last_is}
use Rattle.hm_refs.specs.References as references
use Rattle.hm_refs.specs.References.{Reference, is_semicolon, blocks}
use Rattle.hm_spelling_spec.specs.Characters.{Spot, is_value, opens}
use Rattle.hm_graph_laws.specs.States.{Pending, nothing, less_than, hash, hash_x, decimal, hexadecimal, ampersand, named, half, one_bracket, two_brackets}

-- ---- A step over one byte

abbrev pub goes_on_decimal : ℕ → Bool
goes_on_decimal c = is_digit c || is_semicolon c

abbrev pub goes_on_hexadecimal : ℕ → Bool
goes_on_hexadecimal c = is_hex c || is_semicolon c

-- the '&' alone
unfoldable pub is_root : List ℕ → Bool
is_root q = bytes_eq q (38 ∷ [])

abbrev pub is_hash : ℕ → Bool
is_hash c = 35 == c

-- what is pending with one more byte: a state of this kind where a name begins with the bytes, else nothing
unfoldable pub onto : (List ℕ → Pending) → List Entry → List ℕ → ℕ → Option Pending
onto kind t q c = if is_front t (q ++ c ∷ []) then Some (kind (q ++ c ∷ [])) else Some nothing

unfoldable pub ampersand_in_text : List Entry → List ℕ → ℕ → Option Pending
ampersand_in_text t q c =
    if is_root q && is_hash c then Some hash
    else if is_name t (q ++ c ∷ []) then None
    else onto ampersand t q c

unfoldable pub ampersand_in_value : List Entry → List ℕ → ℕ → Option Pending
ampersand_in_value t q c =
    if is_root q && is_hash c then Some hash
    else if is_name t q then (if blocks c then onto ampersand t q c else None)
    else if is_name t (q ++ c ∷ []) && is_semicolon c then None
    else onto ampersand t q c

unfoldable pub named_in_text : List Entry → List ℕ → ℕ → Option Pending
named_in_text t q c = if is_name t (q ++ c ∷ []) then None else onto named t q c

unfoldable pub named_in_value : List Entry → List ℕ → ℕ → Option Pending
named_in_value t q c = if blocks c || (is_semicolon c && is_front t (q ++ c ∷ [])) then None else Some nothing

abbrev pub unless : Bool → Pending → Option Pending
unless b p = if b then None else Some p

-- what is pending after one more byte; None where the byte makes something else of what was written
abbrev pub step : List Entry → Spot → Pending → ℕ → Option Pending
step t spot nothing c = Some nothing
step t spot less_than c = unless (opens spot c) nothing
step t spot decimal c = unless (goes_on_decimal c) nothing
step t spot hexadecimal c = unless (goes_on_hexadecimal c) nothing
step t spot hash c = if 120 == c || 88 == c then Some hash_x else unless (is_digit c) nothing
step t spot hash_x c = unless (is_hex c) nothing
step t spot (ampersand q) c = if is_value spot then ampersand_in_value t q c else ampersand_in_text t q c
step t spot (named q) c = if is_value spot then named_in_value t q c else named_in_text t q c
step t spot (half left) c = None
step t spot one_bracket c = None
step t spot two_brackets c = None

-- whether a text or value may end here
abbrev pub may_end : List Entry → Spot → Pending → Bool
may_end t spot nothing = true
may_end t spot less_than = true
may_end t spot decimal = true
may_end t spot hexadecimal = true
may_end t spot hash = true
may_end t spot hash_x = true
may_end t spot (ampersand q) = not (is_value spot && is_name t q)
may_end t spot (named q) = true
may_end t spot (half left) = false
may_end t spot one_bracket = false
may_end t spot two_brackets = false

-- what is pending after these bytes, where they break nothing
abbrev pub run : List Entry → Spot → Option Pending → List ℕ → Option Pending
run t spot None s = None
run t spot (Some p) [] = Some p
run t spot (Some p) (c ∷ s) = run t spot (step t spot p c) s

-- ---- What it means

-- the reference at the start of q ++ s, where q was written with its '&' as itself
unfoldable pub reference_after : List Entry → Bool → List ℕ → List ℕ → Option Reference
reference_after t value q [] = references.named value (found t q [])
reference_after t value q (c ∷ s) = if is_root q && is_hash c then references.hash s else references.named value (found t q (c ∷ s))

-- whether, with the bytes that follow, what was written still means what it was meant to
abbrev pub keeps : List Entry → Spot → Pending → List ℕ → Bool
keeps t spot nothing s = true
keeps t spot less_than s = not (head_is (opens spot) s)
keeps t spot decimal s = not (head_is goes_on_decimal s)
keeps t spot hexadecimal s = not (head_is goes_on_hexadecimal s)
keeps t spot hash s = is_none (references.hash s)
keeps t spot hash_x s = is_none (references.hexadecimal s)
keeps t spot (ampersand q) s = is_none (reference_after t (is_value spot) q s)
keeps t spot (named q) s = not (is_value spot && head_is blocks s) && is_none (found_longer t q s)
keeps t spot (half left) s = false
keeps t spot one_bracket s = false
keeps t spot two_brackets s = false

-- whether bytes break nothing from here on, up to the end
abbrev pub passes : List Entry → Spot → Option Pending → List ℕ → Bool
passes t spot None s = false
passes t spot (Some p) [] = may_end t spot p
passes t spot (Some p) (c ∷ s) = passes t spot (step t spot p c) s

-- a literal '&' and what follows it, which is no reference so far
pub record IsOpen (t : List Entry) (value : Bool) (q : List ℕ) : Type 0 where
  pub some : is_null q ≡ false
  pub in_text : value ≡ false → is_name t q ≡ false
  pub in_value : is_name t q ≡ true → last_is 59 q ≡ false

-- what may be pending outside of sections, where nothing is due
abbrev pub Fits : List Entry → Spot → Pending → Type 0
Fits t spot (ampersand q) = IsOpen t (is_value spot) q
Fits t spot (named q) = is_null q ≡ false
Fits t spot (half left) = ⊥
Fits t spot one_bracket = ⊥
Fits t spot two_brackets = ⊥
Fits t spot p = Unit {0}

abbrev pub FitsAfter : List Entry → Spot → Option Pending → Type 0
FitsAfter t spot None = Unit {0}
FitsAfter t spot (Some p) = Fits t spot p

abbrev pub keeps_after : List Entry → Spot → Option Pending → List ℕ → Bool
keeps_after t spot None s = false
keeps_after t spot (Some p) s = keeps t spot p s
