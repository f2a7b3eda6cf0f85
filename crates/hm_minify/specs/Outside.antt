-- What stands outside a run, as far as it is known.
use Rattle.std.specs.Prelude.{ℕ, ◌≡◌, List}
use Rattle.std.specs.declared.option.Option.{Option}
use Rattle.std.specs.Io.KnownBytes.{append_known}
use Rattle.hm_store.specs.Causes.{Rose}
use Rattle.hm_store.specs.Files.{FileMap, AppendsFront}
use Rattle.hm_store.specs.declared.traits.Sink as sink
use Rattle.hm_store.specs.declared.traits.Store as store

-- the files and what was printed, each with the count of the calls that have failed
pub record Outside : Type 0 where
  pub files : Option FileMap
  pub file_faults : ℕ
  pub printed : Option (List ℕ)
  pub print_faults : ℕ

-- what stands outside, by a store and a sink
abbrev pub outside : {S O : Type 0} → store.Ghosts S → sink.Ghosts O → S → O → Outside
outside s o files out = record { files = s.files files; file_faults = s.faults files; printed = o.contents out; print_faults = o.faults out }

-- this holds of what stands outside before and after
abbrev pub Between : {S O : Type 0} → store.Ghosts S → sink.Ghosts O → (store_before : S) (sink_before : O) (store_after : S) (sink_after : O) → (Outside → Outside → Type 0) → Type 0
Between s o store_before sink_before store_after sink_after Holds = Holds (outside s o store_before sink_before) (outside s o store_after sink_after)

-- a call on the files has failed
abbrev pub StoreFails : Outside → Outside → Type 0
StoreFails before after = Rose before.file_faults after.file_faults

-- a put has failed
abbrev pub SinkFails : Outside → Outside → Type 0
SinkFails before after = Rose before.print_faults after.print_faults

-- the line is printed
abbrev pub Prints : List ℕ → Outside → Outside → Type 0
Prints line before after = after.printed ≡ append_known before.printed line

-- a prefix of the line is printed
abbrev pub PrintsFront : List ℕ → Outside → Outside → Type 0
PrintsFront line before after = AppendsFront before.printed after.printed line
