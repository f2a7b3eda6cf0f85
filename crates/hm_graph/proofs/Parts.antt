-- The bytes of a comment with its marks.
use Rattle.std.proofs.Common.{◌≡◌, ℕ, ◌+◌, List, ◌++◌, length, arith, length-append, codes}
use Rattle.hm_event_parts.specs.Parts.{comment_bytes}

pub comment_length : (s : List ℕ) → length (comment_bytes s) ≡ length s + 7
comment_length s = omega (arith, length-append (codes "<!--") (s ++ codes "-->"), length-append s (codes "-->"))
