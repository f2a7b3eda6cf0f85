-- A unit's own text, in bytes.
use Rattle.std.specs.Prelude.{ℕ, List, encode_utf8}
use Rattle.hm_event_parts.specs.Parts.{comment_bytes}
use Rattle.hm_event_parts.specs.declared.pieces.UnitText.{UnitText}
use Rattle.hm_event_parts.specs.declared.pieces.UnitText.TheVariants as own

abbrev pub own_text : UnitText → List ℕ
own_text (own.Bytes text) = text.now
own_text (own.Comment text) = comment_bytes text.now
own_text (own.Character c) = encode_utf8 c
