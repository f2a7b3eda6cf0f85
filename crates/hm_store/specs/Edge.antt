-- What contracts see of the edge to the system: open files, a writer, and how often a call has failed.
use Rattle.std.specs.Prelude.{ℕ, Some, None}
use Rattle.std.specs.declared.option.Option.{Option}

pub record OpenFiles (F : Type 0) : Type 0 where
  pub reading : Option F
  pub writing : Option F
  pub faults : ℕ

-- no file is open, and no call has failed
abbrev pub no_open_files : {F : Type 0} → OpenFiles F
no_open_files = record { reading = None; writing = None; faults = 0 }

-- where both are there, this holds of the two
abbrev pub ForBoth : {F : Type 0} → Option F → Option F → (F → F → Type 0) → Type 0
ForBoth (Some f) (Some g) P = P f g
ForBoth (Some f) None P = Unit {0}
ForBoth None g P = Unit {0}

pub record SinkOver (W : Type 0) : Type 0 where
  pub inner : W
  pub faults : ℕ
