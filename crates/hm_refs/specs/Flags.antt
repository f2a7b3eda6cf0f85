-- The flags of plain characters, as the code keeps them.
use Rattle.std.specs.Prelude.{◌≡◌, ℕ, ◌<◌, Bool, false, List, length, slice_index_or}
use Rattle.hm_refs.specs.Names.{Entry}
use Rattle.hm_refs.specs.Plain.{is_plain}

-- a flag for each ASCII character, which says whether it is plain
pub record IsFlagged (t : List Entry) (flags : List Bool) : Type 0 where
  pub all : length flags ≡ 128
  pub each : (c : ℕ) → c < 128 → slice_index_or flags c false ≡ is_plain t c
