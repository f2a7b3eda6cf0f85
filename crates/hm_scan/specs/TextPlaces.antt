-- Where a plain text ends, by places of the whole text.
use Rattle.std.specs.Prelude.{◌≡◌, ℕ, ◌<◌, ◌≤◌, Bool, true, false, List, [], ◌∷◌, drop, length, slice_index, slice_range, Option, None}
use Rattle.memchr.specs.Find.{is_byte, is_byte2}
use Rattle.hm_refs.specs.Names.{Entry}
use Rattle.hm_refs.specs.References.{Reference}
use Rattle.hm_scan.specs.Texts.{reference_in, ends_plain, plain_front}

-- the reference at the start of these bytes
abbrev pub reference_here : List Entry → List ℕ → Option Reference
reference_here t [] = None
reference_here t (c ∷ s) = reference_in t c s

-- A plain text ends before these bytes.
abbrev pub ends_before : List Entry → Bool → List ℕ → Bool
ends_before t rcdata [] = false
ends_before t rcdata (c ∷ s) = ends_plain t rcdata c s

-- '&', and in ordinary text '<': no plain text ends before another byte
abbrev pub is_sign : Bool → ℕ → Bool
is_sign true = is_byte 38
is_sign false = is_byte2 60 38

-- The plain text from one place on ends at another, before an ASCII byte or with the whole text.
pub record IsPlainTo (t : List Entry) (rcdata : Bool) (s : List ℕ) (from to : ℕ) : Type 0 where
  pub forward : from ≤ to
  pub inside : to ≤ length s
  pub is : plain_front t rcdata (drop from s) ≡ slice_range s from to
  pub ascii : to < length s → slice_index s to < 128
