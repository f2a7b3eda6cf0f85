-- A name of a table has few bytes.
use Rattle.std.proofs.Common.{ℕ, ◌<◌, ◌≤◌, nat_le, length}
use Rattle.hm_refs.proofs.Bools.{and_right, le_of}
use Rattle.hm_refs.proofs.Gathered.{at_in}
use Rattle.hm_refs.specs.Names.{Entry, is_good}
use Rattle.hm_refs.specs.Tables.{IsTable, entry_at}
use Rattle.std.specs.Prelude.{List}

pub name_short : (t : List Entry) → IsTable t → (i : ℕ) → i < length t → length (entry_at t i).name ≤ 64
name_short t k i h =
    let e : Entry = entry_at t i in
    le_of (length e.name) 64 (and_right (is_good e.name) (nat_le (length e.name) 64) (k.good e (at_in t i h)))
