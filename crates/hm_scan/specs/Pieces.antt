-- Parts of the rest of a text as tokens. Where the end of a part is missing, the text is cut.
use Rattle.std.specs.Prelude.{ℕ, List, Option, Some, None, take, drop}
use Rattle.hm_base.specs.Bytes.{Cut}
use Rattle.hm_tree.specs.Tokens.{Scanned, taken, refused, slice, comment}
use Rattle.hm_tree.specs.declared.tokens.ScanFault.TheVariants as faults

abbrev pub as_comment : Option Cut → Scanned
as_comment None = refused faults.Cut
as_comment (Some k) = taken (comment k.before) k.after

abbrev pub as_slice : Option Cut → Scanned
as_slice None = refused faults.Cut
as_slice (Some k) = taken (slice k.before) k.after

-- the text up to a place, followed by the bytes from there on
abbrev pub slice_up_to : List ℕ → Option ℕ → Scanned
slice_up_to s None = refused faults.Cut
slice_up_to s (Some n) = taken (slice (take n s)) (drop n s)
