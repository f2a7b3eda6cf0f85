-- Terms for texts as lists of bytes: tests of a byte, prefixes that pass a test or are given, cuts at a mark.
use Rattle.std.specs.Prelude.{ℕ, ◌+◌, Bool, true, false, ◌&&◌, ◌||◌, ◌==◌, nat_le, nat_lt, List, [], ◌∷◌, Option, Some, None, if◌then◌else◌}
use Rattle.std.specs.Char.{digit_value}

-- TAB, LF, FF, CR or SPACE
unfoldable pub is_space : ℕ → Bool
is_space c = c == 9 || c == 10 || c == 12 || c == 13 || c == 32

-- an ASCII letter
unfoldable pub is_letter : ℕ → Bool
is_letter c = (nat_le 65 c && nat_le c 90) || (nat_le 97 c && nat_le c 122)

-- an ASCII digit of a base up to 36, letters of either case being those from ten on
unfoldable pub is_digit_of : ℕ → ℕ → Bool
is_digit_of base c = nat_lt (digit_value c) base

-- an ASCII digit
abbrev pub is_digit : ℕ → Bool
is_digit c = is_digit_of 10 c

-- an ASCII hexadecimal digit
abbrev pub is_hex : ℕ → Bool
is_hex c = is_digit_of 16 c

-- an ASCII letter or digit
unfoldable pub is_alnum : ℕ → Bool
is_alnum c = is_letter c || is_digit c

-- an ASCII uppercase letter as its lowercase letter, every other byte as it is
unfoldable pub lower : ℕ → ℕ
lower c = if nat_le 65 c && nat_le c 90 then c + 32 else c

-- the longest prefix whose bytes pass
abbrev pub front : (ℕ → Bool) → List ℕ → List ℕ
front p [] = []
front p (c ∷ s) = if p c then c ∷ front p s else []

-- what follows that prefix
abbrev pub rest_after : (ℕ → Bool) → List ℕ → List ℕ
rest_after p [] = []
rest_after p (c ∷ s) = if p c then rest_after p s else c ∷ s

-- each byte passes
abbrev pub all_pass : (ℕ → Bool) → List ℕ → Bool
all_pass p [] = true
all_pass p (c ∷ s) = p c && all_pass p s

-- some byte passes
abbrev pub some_passes : (ℕ → Bool) → List ℕ → Bool
some_passes p [] = false
some_passes p (c ∷ s) = p c || some_passes p s

-- there is a first byte, and it passes
abbrev pub head_is : (ℕ → Bool) → List ℕ → Bool
head_is p [] = false
head_is p (c ∷ s) = p c

-- there is no byte
abbrev pub is_null : List ℕ → Bool
is_null [] = true
is_null (c ∷ s) = false

-- what follows the prefix, where the text begins with it
abbrev pub strip : List ℕ → List ℕ → Option (List ℕ)
strip [] s = Some s
strip (c ∷ p) [] = None
strip (c ∷ p) (d ∷ s) = if c == d then strip p s else None

-- what follows a word of lowercase letters, where the text begins with it in any ASCII case
abbrev pub strip_word : List ℕ → List ℕ → Option (List ℕ)
strip_word [] s = Some s
strip_word (c ∷ p) [] = None
strip_word (c ∷ p) (d ∷ s) = if c == lower d then strip_word p s else None

-- what comes before a mark, and what follows it
pub record Cut : Type 0 where
  pub before : List ℕ
  pub after : List ℕ

abbrev pub with_first : ℕ → Option Cut → Option Cut
with_first c None = None
with_first c (Some k) = Some (record { before = c ∷ k.before; after = k.after })

abbrev pub or_go_on : Option (List ℕ) → ℕ → Option Cut → Option Cut
or_go_on (Some rest) c k = Some (record { before = []; after = rest })
or_go_on None c k = with_first c k

-- the text cut at the first place of a mark of at least one byte
abbrev pub cut_at : List ℕ → List ℕ → Option Cut
cut_at mark [] = None
cut_at mark (c ∷ s) = or_go_on (strip mark (c ∷ s)) c (cut_at mark s)
