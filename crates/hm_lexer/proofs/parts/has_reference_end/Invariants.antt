use Rattle.std.proofs.Common.{◌≡◌, drop}
use Rattle.hm_base.specs.Bytes.{some_passes}
use Rattle.hm_lexer.specs.Ready.{ends_reference}
use Rattle.hm_lexer.proofs.parts.has_reference_end.Given as goal

-- none has passed so far
abbrev pub invariant-loop-byte : goal.invariant-loop-byte
invariant-loop-byte l = some_passes ends_reference l.bytes ≡ some_passes ends_reference (drop l.byte-index l.bytes)
