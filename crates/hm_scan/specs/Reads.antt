-- The next character reference of a value.
use Rattle.std.specs.Prelude.{◌≡◌, ℕ, ◌+◌, ◌<◌, ◌≤◌, List, ◌++◌, drop, slice_range, encode_utf8_all, IsCharBoundary}
use Rattle.hm_refs.specs.Names.{Entry}
use Rattle.hm_refs.specs.Tables.{points_list}
use Rattle.hm_scan.specs.Values.{read_value}
use Rattle.hm_scan.specs.declared.values.PlacedReference.{PlacedReference}

-- The first reference of a value at or after a place. What is before it stands for itself.
pub record IsNext (t : List Entry) (s : List ℕ) (from : ℕ) (p : PlacedReference) : Type 0 where
  pub read : read_value t (drop from s) ≡ slice_range s from p.at ++ (encode_utf8_all (points_list p.reference.points) ++ read_value t (drop (p.at + p.reference.len) s))
  pub forward : from ≤ p.at
  pub some : 0 < p.reference.len
  pub starts : IsCharBoundary s p.at
  pub ends : IsCharBoundary s (p.at + p.reference.len)
