-- What contracts see of a store in memory.
use Rattle.std.specs.Prelude.{ℕ, ◌+◌, Bool, true, false, List, [], ◌++◌, drop, Some, None, refl}
use Rattle.std.specs.declared.option.Option.{Option}
use Rattle.std.specs.declared.result.Result.{Result}
use Rattle.std.specs.declared.result.Result.TheVariants.{Ok, Err}
use Rattle.std.specs.Option.{option_map, option_map_or, unwrap_or}
use Rattle.std.specs.Coded.{Coded, code_by, coded×, coded_ℕ, coded_list, coded_option}
use Rattle.std.specs.FinMap as finmap
use Rattle.hm_store.specs.Calls.{CallLog, call_log_code, no_calls}
use Rattle.hm_store.specs.Tears.{TearLog, tear_log_code, no_tears}
use Rattle.hm_store.specs.Files.{FileMap, content}

-- the file that is being read, and how many of its bytes were taken
pub record FileReading : Type 0 where
  pub name : List ℕ
  pub taken : ℕ

pub record StoredFiles : Type 0 where
  pub files : FileMap
  pub reading : Option FileReading
  pub writing : Option (List ℕ)  -- the name of the file that is being written
  pub calls : CallLog
  pub tears : TearLog

-- they are stored as the tuples of their fields
abbrev pub reading_code : Coded FileReading
reading_code = code_by (List ℕ × ℕ) (coded× (coded_list coded_ℕ) coded_ℕ) (λ r. (r.name, r.taken)) (λ p. record { name = p.0; taken = p.1 }) (λ _. refl)

abbrev pub stored_files_code : Coded StoredFiles
stored_files_code = code_by (FileMap × (Option FileReading × (Option (List ℕ) × (CallLog × TearLog)))) (coded× (finmap.code (coded_list coded_ℕ) (coded_list coded_ℕ)) (coded× (coded_option reading_code) (coded× (coded_option (coded_list coded_ℕ)) (coded× call_log_code tear_log_code)))) (λ s. (s.files, (s.reading, (s.writing, (s.calls, s.tears))))) (λ p. record { files = p.0; reading = p.1.0; writing = p.1.1.0; calls = p.1.1.1.0; tears = p.1.1.1.1 }) (λ _. refl)

-- no files, none of which is read or written, no call made, and none listed to fail or to be torn
abbrev pub empty_store : StoredFiles
empty_store = record { files = finmap.empty; reading = None; writing = None; calls = no_calls; tears = no_tears }

-- the name of the file that is being read
abbrev pub source_of : Option FileReading → List ℕ
source_of reading = option_map_or (λ r. r.name) reading []

-- what is left of it to read
abbrev pub rest_of : FileMap → Option FileReading → Option (List ℕ)
rest_of files reading = option_map (λ r. drop r.taken (content files r.name)) reading

-- what is left to read, nothing where no file is being read
abbrev pub left_of : StoredFiles → List ℕ
left_of s = unwrap_or (rest_of s.files s.reading) []

-- the name of the file that is being written
abbrev pub target_of : Option (List ℕ) → List ℕ
target_of writing = unwrap_or writing []

-- the files, with these bytes appended to the file that is being written
abbrev pub with_bytes : StoredFiles → List ℕ → FileMap
with_bytes s bytes =
    let name = target_of s.writing in finmap.insert s.files name (content s.files name ++ bytes)

-- what is being read after an opening with this answer
abbrev pub opened : {E : Type 0} → List ℕ → Result Bool E → Option FileReading
opened name (Ok true) = Some (record { name = name; taken = 0 })
opened name (Ok false) = None
opened name (Err e) = None

-- `count` more bytes were taken
abbrev pub advanced : Option FileReading → ℕ → Option FileReading
advanced reading count = option_map (λ r. record { name = r.name; taken = r.taken + count }) reading
