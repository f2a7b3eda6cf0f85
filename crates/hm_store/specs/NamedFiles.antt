-- What contracts see of the files in memory: their names in the order in which they came, and their contents by name.
use Rattle.std.specs.Prelude.{ℕ, List, [], ◌++◌, map, refl, slice_index_or}
use Rattle.std.specs.Coded.{Coded, code_by, coded×, coded_ℕ, coded_list}
use Rattle.std.specs.String.{string_bytes}
use Rattle.std.specs.declared.string.String.{String}
use Rattle.std.specs.declared.vec.Vec.{Vec}
use Rattle.std.specs.declared.alloc.Global.{Global}
use Rattle.std.specs.FinMap as finmap
use Rattle.hm_store.specs.Files.{FileMap, content}

pub record NamedFiles : Type 0 where
  pub names : List (List ℕ)
  pub files : FileMap

-- they are stored as the pair of the fields
abbrev pub named_files_code : Coded NamedFiles
named_files_code = code_by (List (List ℕ) × FileMap) (coded× (coded_list (coded_list coded_ℕ)) (finmap.code (coded_list coded_ℕ) (coded_list coded_ℕ))) (λ t. (t.names, t.files)) (λ p. record { names = p.0; files = p.1 }) (λ _. refl)

abbrev pub no_files : NamedFiles
no_files = record { names = []; files = finmap.empty }

-- the name at a place
abbrev pub name_at : List (List ℕ) → ℕ → List ℕ
name_at names place = slice_index_or names place []

-- these bytes are appended to those of the file at a place
abbrev pub appended_at : NamedFiles → ℕ → List ℕ → NamedFiles
appended_at t place bytes =
    let name = name_at t.names place in record t { files = finmap.insert t.files name (content t.files name ++ bytes) }

-- the names of the entries that hold the files
abbrev pub names_of : List (String Global × Vec ℕ Global) → List (List ℕ)
names_of entries = map (λ e. string_bytes e.0) entries

-- the files that the entries hold
unfoldable pub files_of : List (String Global × Vec ℕ Global) → FileMap
files_of entries = finmap.from_entries (map (λ e. (string_bytes e.0, e.1.items)) entries)
