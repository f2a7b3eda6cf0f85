-- What a store in memory keeps of the files that are read and written: their places among the files.
use Rattle.std.specs.Prelude.{ℕ, ◌<◌, List, Some, None}
use Rattle.std.specs.declared.option.Option.{Option}
use Rattle.std.specs.Option.{option_map}
use Rattle.hm_store.specs.declared.mem_store.FileReading.{FileReading as Place}
use Rattle.hm_store.specs.MemStore.{FileReading}
use Rattle.hm_store.specs.NamedFiles.{name_at}

-- the reading at a place
abbrev pub reading_at : List (List ℕ) → Option Place → Option FileReading
reading_at names place = option_map (λ r. record { name = name_at names r.place; taken = r.taken }) place

-- a place is below that number, where there is one
abbrev pub IsWithin : ℕ → Option ℕ → Type 0
IsWithin count None = Unit {0}
IsWithin count (Some place) = place < count

-- what is read and what is written have places below that number
pub record AreWithin (count : ℕ) (reading : Option Place) (writing : Option ℕ) : Type 0 where
  pub reads : IsWithin count (option_map (λ r. r.place) reading)
  pub writes : IsWithin count writing
