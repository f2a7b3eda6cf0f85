-- What is known of a store's files, and what each call does to that. Names and contents are lists of bytes.
use Rattle.std.specs.Prelude.{ℕ, ◌≡◌, ◌<◌, List, [], ◌++◌, length, take, Bool, IsTrue, IsSome, Some, None, MatchResult}
use Rattle.std.specs.declared.option.Option.{Option}
use Rattle.std.specs.declared.result.Result.{Result}
use Rattle.std.specs.Option.{option_map, option_and_then, unwrap_or}
use Rattle.std.specs.Ordering.{nat_cmp}
use Rattle.std.specs.Cmp.Lexicographic.{slice_cmp}
use Rattle.std.specs.Io.KnownBytes.{append_known, prepend_known, IsAtEnd}
use Rattle.std.specs.FinMap as map

-- a finite map from names to contents
abbrev pub FileMap : Type 0
FileMap = map.FinMap (slice_cmp nat_cmp) (List ℕ)

-- the content under a name, empty where there is none
abbrev pub content : FileMap → List ℕ → List ℕ
content files name = unwrap_or (map.get files name) []

-- the content of a file, where the files are known and it is there
abbrev pub file_of : Option FileMap → List ℕ → Option (List ℕ)
file_of told name = option_and_then (λ files. map.get files name) told

-- the files are known, and none has this name
abbrev pub IsMissing : Option FileMap → List ℕ → Type 0
IsMissing told name = IsSome told × (file_of told name ≡ None)

-- known files, with this content under that name
abbrev pub with_file : Option FileMap → List ℕ → List ℕ → Option FileMap
with_file told name bytes = option_map (λ files. map.insert files name bytes) told

-- known files, with these bytes after what that name has
abbrev pub with_more : Option FileMap → List ℕ → List ℕ → Option FileMap
with_more told name bytes = option_map (λ files. map.insert files name (content files name ++ bytes)) told

-- a prefix of the bytes stands under that name
pub record HasFront (old new : Option FileMap) (name bytes : List ℕ) : Type 0 where
  pub taken : ℕ
  pub files : new ≡ with_file old name (take taken bytes)

-- a prefix of the bytes was appended to what that name has
pub record PutsFront (old new : Option FileMap) (name bytes : List ℕ) : Type 0 where
  pub taken : ℕ
  pub files : new ≡ with_more old name (take taken bytes)

-- a prefix of the bytes was appended to what a sink has
pub record AppendsFront (old new : Option (List ℕ)) (bytes : List ℕ) : Type 0 where
  pub taken : ℕ
  pub bytes_are : new ≡ append_known old (take taken bytes)

-- after an opening for reading: what is left to read is the whole file, which is there
abbrev pub Opens : {E : Type 0} → Option FileMap → List ℕ → Result Bool E → Option (List ℕ) → Type 0
Opens told name result rest = MatchResult result (λ found. IsTrue found → (rest ≡ file_of told name) × (IsSome told → IsSome rest)) (λ _. Unit {0})

-- a pull took the next n bytes of what is left to read, none only at its end or with no room
pub record Pulls (old new : Option (List ℕ)) (n : ℕ) (into : List ℕ) : Type 0 where
  pub front : old ≡ prepend_known (take n into) new
  pub ended : n ≡ 0 → 0 < length into → IsAtEnd new

-- where the content is known, these bytes are its first `most`, or all where it has fewer
abbrev pub Takes : Option (List ℕ) → ℕ → List ℕ → Type 0
Takes None most bytes = Unit {0}
Takes (Some file) most bytes = bytes ≡ take most file
