-- The part of a line that is shown for a byte.
use Rattle.std.specs.Prelude.{◌≡◌, ℕ, zero, suc, ◌-◌, Bool, not, ◌&&◌, ◌||◌, ◌==◌, nat_le, List, [], ◌∷◌, ◌++◌, take, drop, length, slice_index, if◌then◌else◌}
use Rattle.std.specs.Fmt.{is_char_start}
use Rattle.hm_base.specs.Bytes.{head_is}
use Rattle.hm_location.specs.Lines.{line_front}
use Rattle.hm_location.specs.declared.shown.TheConstants.{BEFORE, AFTER_PLACE}

abbrev pub is_break : ℕ → Bool
is_break c = c == 10 || c == 13

-- the bytes up to the next line end
abbrev pub line_rest : List ℕ → List ℕ
line_rest [] = []
line_rest (c ∷ s) = if is_break c then [] else c ∷ line_rest s

-- what begins with a character
abbrev pub from_char : List ℕ → List ℕ
from_char [] = []
from_char (c ∷ s) = if is_char_start c then c ∷ s else from_char s

-- where a place is shown: the LF of a CR LF is shown at the CR
abbrev pub shown_place : List ℕ → ℕ → ℕ
shown_place s zero = zero
shown_place s (suc i) = if slice_index s i == 13 && head_is (λ c. c == 10) (drop (suc i) s) then i else suc i

-- the line of a place without its end
abbrev pub line_at : List ℕ → ℕ → List ℕ
line_at s p = line_front s p ++ line_rest (drop p s)

-- The last n bytes before a place, but for those of a character that is cut.
abbrev pub shown_before : ℕ → List ℕ → List ℕ
shown_before n q = if nat_le (length q) n then q else from_char (drop (length q - n) q)

-- The first n bytes from a place on, or fewer: a character is shown whole or not at all.
unfoldable pub shown_after : ℕ → List ℕ → List ℕ
shown_after zero s = []
shown_after (suc n) s = if head_is (λ c. not (is_char_start c)) (drop (suc n) s) then shown_after n s else take (suc n) s

-- the bytes that are shown before the place, and all that are shown
unfoldable pub front_shown : List ℕ → ℕ → List ℕ
front_shown s at = shown_before BEFORE (line_front s (shown_place s at))

unfoldable pub rest_shown : List ℕ → ℕ → List ℕ
rest_shown s at = shown_after AFTER_PLACE (line_rest (drop (shown_place s at) s))

-- these bytes are a part of a line
pub record IsPart (bytes line : List ℕ) : Type 0 where
  pub before : List ℕ
  pub after : List ℕ
  pub whole : before ++ bytes ++ after ≡ line
