-- What a reader of character references returns.
use Rattle.std.specs.Prelude.{◌≡◌, ℕ, ◌-◌, ◌<◌, ◌≤◌, Bool, false, List, length, drop, slice_index, slice_range, Option, Some}
use Rattle.hm_base.specs.Bytes.{front, rest_after}
use Rattle.hm_refs.specs.References as refs
use Rattle.hm_refs.specs.Tables.{points_list}
use Rattle.hm_refs.specs.declared.scan.Reference.{Reference}

-- the longest prefix of what begins at from whose bytes pass ends at to
pub record IsEndOf (p : ℕ → Bool) (s : List ℕ) (from to : ℕ) : Type 0 where
  pub forward : from ≤ to
  pub inside : to ≤ length s
  pub front : front p (drop from s) ≡ slice_range s from to
  pub after : rest_after p (drop from s) ≡ drop to s
  pub stops : to < length s → p (slice_index s to) ≡ false

-- this reference at the start of the text; its last byte is ASCII
pub record IsReadReference (o : Option refs.Reference) (text : List ℕ) (r : Reference) : Type 0 where
  pub is : o ≡ Some (record { points = points_list r.points; len = r.len })
  pub some : 0 < r.len
  pub inside : r.len ≤ length text
  pub ascii : slice_index text (r.len - 1) < 128
