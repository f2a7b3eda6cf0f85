-- The rows of starts: what they have of the attributes, and where their names are.
use Rattle.std.specs.Prelude.{ℕ, ◌+◌, ◌-◌, ◌^◌, ◌<◌, ◌≤◌, Bool, false, List, length, get_or, Option, Some, None}
use Rattle.hm_tree.specs.Pieces.{name_of}
use Rattle.hm_tree.specs.declared.pieces.AttributePieces.{AttributePieces}
use Rattle.hm_tree.specs.declared.pieces.TextRange.{TextRange}
use Rattle.hm_tree.specs.declared.rows.RowPart.{RowPart}
use Rattle.hm_tree.specs.declared.rows.RowPart.TheVariants as parts
use Rattle.hm_tree.specs.declared.starts.AttributeRange.{AttributeRange}

-- a name of so many bytes
abbrev pub name_from : ℕ → ℕ → TextRange
name_from from len = record { from = from; to = from + len }

abbrev pub no_piece : AttributePieces
no_piece = record { from = 0; middle = 0; to = 0 }

-- the name that is the piece directly before attributes
abbrev pub name_before : List AttributePieces → ℕ → TextRange
name_before pieces first = name_of (get_or pieces (first - 1) no_piece)

-- which attributes are those of a row, where it is a start
abbrev pub own_of : RowPart → Option AttributeRange
own_of (parts.Start foreign len count from first) = Some (record { first = first; count = count })
own_of (parts.LongStart foreign count first) = Some (record { first = first; count = count })
own_of part = None

-- the name of a start
abbrev pub name_at : List AttributePieces → RowPart → TextRange
name_at pieces (parts.Start foreign len count from first) = name_from from len
name_at pieces (parts.LongStart foreign count first) = name_before pieces first
name_at pieces part = name_from 0 0

-- whether it is foreign
abbrev pub flag_of : RowPart → Bool
flag_of (parts.Start foreign len count from first) = foreign
flag_of (parts.LongStart foreign count first) = foreign
flag_of part = false

-- its name can be read, and ends at a place of four bytes
abbrev pub HasName : List AttributePieces → RowPart → Type 0
HasName pieces (parts.Start foreign len count from first) = from + len < 2 ^ 32
HasName pieces (parts.LongStart foreign count first) = (0 < first) × (first ≤ length pieces)
HasName pieces part = Unit {0}

-- the row of its end
abbrev pub end_part : List AttributePieces → RowPart → RowPart
end_part pieces (parts.Start foreign len count from first) = parts.End foreign (name_from from len)
end_part pieces (parts.LongStart foreign count first) = parts.End foreign (name_before pieces first)
end_part pieces part = part

-- the same start with one attribute fewer
abbrev pub fewer : RowPart → RowPart
fewer (parts.Start foreign len count from first) = parts.Start foreign len (count - 1) from first
fewer (parts.LongStart foreign count first) = parts.LongStart foreign (count - 1) first
fewer part = part
