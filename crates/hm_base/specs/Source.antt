-- The text of a page (HTML Standard, #the-input-byte-stream): its bytes without a byte order mark, each line end as one
-- LF, each byte with its place.
use Rattle.std.specs.Prelude.{ℕ, zero, suc, ◌+◌, Bool, not, ◌&&◌, ◌==◌, nat_lt, List, [], ◌∷◌, length, map, Option, Some, None, if◌then◌else◌}
use Rattle.hm_base.specs.declared.rules.Rule.{Rule}
use Rattle.hm_base.specs.declared.rules.Rule.TheVariants.{NotUtf8, Nul}
use Rattle.std.specs.Str.Lossy.{utf8_valid_len}

-- a byte and the byte of the page that it came from
pub record PlacedByte : Type 0 where
  pub byte : ℕ
  pub place : ℕ

-- the bytes with their numbers, counted from n
abbrev pub numbered : ℕ → List ℕ → List PlacedByte
numbered n [] = []
numbered n (c ∷ s) = record { byte = c; place = n } ∷ numbered (n + 1) s

-- without one leading EF BB BF
abbrev pub without_mark : List PlacedByte → List PlacedByte
without_mark [] = []
without_mark (a ∷ []) = a ∷ []
without_mark (a ∷ b ∷ []) = a ∷ b ∷ []
without_mark (a ∷ b ∷ c ∷ s) = if a.byte == 0xEF && (b.byte == 0xBB && c.byte == 0xBF) then s else a ∷ b ∷ c ∷ s

-- each CR LF as one LF, with the place of the CR
abbrev pub pairs_joined : List PlacedByte → List PlacedByte
pairs_joined [] = []
pairs_joined (a ∷ []) = a ∷ []
pairs_joined (a ∷ b ∷ s) = if a.byte == 13 && b.byte == 10 then record { byte = 10; place = a.place } ∷ pairs_joined s else a ∷ pairs_joined (b ∷ s)

-- each CR as LF
abbrev pub returns_replaced : List PlacedByte → List PlacedByte
returns_replaced [] = []
returns_replaced (a ∷ s) = record { byte = if a.byte == 13 then 10 else a.byte; place = a.place } ∷ returns_replaced s

-- the text of a page, each byte with its place
abbrev pub placed_text : List ℕ → List PlacedByte
placed_text page = returns_replaced (pairs_joined (without_mark (numbered 0 page)))

abbrev pub byte_of : PlacedByte → ℕ
byte_of a = a.byte

-- the bytes of the text
abbrev pub text_of : List ℕ → List ℕ
text_of page = map byte_of (placed_text page)

-- a byte that a text may have: none is zero, and no CR is left
abbrev pub is_text_byte : ℕ → Bool
is_text_byte c = not (c == 0) && not (c == 13)

-- the place of the byte at an index; after the last byte it is the page's length
abbrev pub place_in : List PlacedByte → ℕ → ℕ → ℕ
place_in [] end i = end
place_in (a ∷ s) end zero = a.place
place_in (a ∷ s) end (suc i) = place_in s end i

-- the first zero byte, counted from n
abbrev pub zero_from : ℕ → List ℕ → Option ℕ
zero_from n [] = None
zero_from n (c ∷ s) = if c == 0 then Some n else zero_from (n + 1) s

-- the first byte of the first sequence that isn't UTF-8
abbrev pub bad_sequence : List ℕ → Option ℕ
bad_sequence page = if utf8_valid_len page == length page then None else Some (utf8_valid_len page)

-- a rule and the byte of the page where it refuses
pub record Refusal : Type 0 where
  pub rule : Rule
  pub at : ℕ

abbrev pub refusal_at : Rule → ℕ → Refusal
refusal_at rule at = record { rule = rule; at = at }

-- of two refusals the earlier one
abbrev pub earlier : Option ℕ → Option ℕ → Option Refusal
earlier None None = None
earlier (Some bad) None = Some (refusal_at NotUtf8 bad)
earlier None (Some nul) = Some (refusal_at Nul nul)
earlier (Some bad) (Some nul) = if nat_lt nul bad then Some (refusal_at Nul nul) else Some (refusal_at NotUtf8 bad)

-- why a page has no text, where it has none
abbrev pub text_fault : List ℕ → Option Refusal
text_fault page = earlier (bad_sequence page) (zero_from 0 page)

-- what is known of a page that was read: its text with places, and its length
pub record Source : Type 0 where
  pub placed : List PlacedByte
  pub end : ℕ

abbrev pub source_of : List ℕ → Source
source_of page = record { placed = placed_text page; end = length page }
