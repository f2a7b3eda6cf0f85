-- A page that comes in pieces: which fault of the bytes so far can't be mended any more, and which text of them can't
-- change, whatever follows.
use Rattle.std.specs.Prelude.{◌≡◌, ℕ, pred, Bool, false, ◌&&◌, ◌==◌, List, [], ◌∷◌, ◌++◌, length, take, drop, Option, Some, None, is_some, if◌then◌else◌}
use Rattle.std.specs.Str.Lossy.{utf8_valid_len, utf8_error_len}
use Rattle.hm_base.specs.Source.{PlacedByte, Source, Refusal, earlier, zero_from, source_of}

-- the first byte of the first sequence that isn't UTF-8, but where the bytes end within a character
abbrev pub lasting_bad : List ℕ → Option ℕ
lasting_bad s = if is_some (utf8_error_len (drop (utf8_valid_len s) s)) then Some (utf8_valid_len s) else None

-- why a page that begins with these bytes has no text, whatever follows
abbrev pub lasting_fault : List ℕ → Option Refusal
lasting_fault s = earlier (lasting_bad s) (zero_from 0 s)

-- the last byte is a CR
abbrev pub ends_with_return : List ℕ → Bool
ends_with_return [] = false
ends_with_return (c ∷ []) = c == 13
ends_with_return (c ∷ d ∷ s) = ends_with_return (d ∷ s)

-- how many bytes have a text already: not the front of a character at the end, nor a CR there, which may be one of CR LF
unfoldable pub decided_len : List ℕ → ℕ
decided_len s = if utf8_valid_len s == length s && ends_with_return s then pred (length s) else utf8_valid_len s

-- the text of these bytes that later ones can't change
abbrev pub decided : List ℕ → Source
decided s = source_of (take (decided_len s) s)

-- the one text is a front of the other, with the same places
pub record IsTextFront (a b : Source) : Type 0 where
  pub more : List PlacedByte
  pub placed : b.placed ≡ a.placed ++ more
