-- What the files of a run hold, whether or not that is known.
use Rattle.std.specs.Prelude.{ℕ, ◌≡◌, List, IsSome}
use Rattle.std.specs.declared.option.Option.{Option}
use Rattle.hm_store.specs.Files.{FileMap, file_of}

-- the content of each file, None where there is none
abbrev pub Contents : Type 0
Contents = List ℕ → Option (List ℕ)

-- where the files are known, these are their contents
abbrev pub AreTold : Option FileMap → Contents → Type 0
AreTold told seen = IsSome told → (name : List ℕ) → seen name ≡ file_of told name

-- this holds of some contents that the files can have; where the files are known, of their contents
pub record Sees (told : Option FileMap) (P : Contents → Type 0) : Type 0 where
  pub seen : Contents
  pub are_told : AreTold told seen
  pub holds : P seen

-- the files are known, and this holds of their contents
pub record Tells (told : Option FileMap) (P : Contents → Type 0) : Type 0 where
  pub some : IsSome told
  pub holds : P (file_of told)
