-- A copy of a unit's own text.
use Rattle.std.specs.Prelude.{ℕ, List, encode_utf8, string_bytes}
use Rattle.hm_event_parts.specs.Parts.{comment_bytes}
use Rattle.hm_shortest.specs.declared.owned.UnitTextBuf.{UnitTextBuf}
use Rattle.hm_shortest.specs.declared.owned.UnitTextBuf.TheVariants as owned

abbrev pub owned_text : UnitTextBuf → List ℕ
owned_text (owned.Bytes text) = string_bytes text
owned_text (owned.Comment text) = comment_bytes (string_bytes text)
owned_text (owned.Character c) = encode_utf8 c
