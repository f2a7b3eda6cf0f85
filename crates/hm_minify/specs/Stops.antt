-- Why a run can't come to its ending, or has no tree to work on.
use Rattle.std.specs.Prelude.{◌≡◌}
use Rattle.hm_input.specs.declared.unread.InputFault.{InputFault}
use Rattle.hm_input.specs.declared.unread.InputFault.TheVariants as reasons
use Rattle.hm_minify.specs.Endings.{Ending, says}
use Rattle.hm_minify.specs.Lines.{json_line, refused_line, table_line}
use Rattle.hm_minify.specs.declared.ended.Stop.{Stop}
use Rattle.hm_minify.specs.declared.ended.Stop.TheVariants as stops
use Rattle.hm_minify.specs.declared.status.Status.TheVariants as status
use Rattle.hm_store.specs.declared.whole_files.LoadFault.{LoadFault}
use Rattle.hm_store.specs.declared.whole_files.LoadFault.TheVariants as faults

-- a file that can't be loaded stops a run
abbrev pub stop_of : LoadFault → Stop
stop_of faults.Store = stops.Store
stop_of faults.OutOfMemory = stops.OutOfMemory

-- what is said where there is no tree; where a call failed or memory was refused, the run stops
abbrev pub IsSaidWithout : InputFault → Ending → Type 0
IsSaidWithout (reasons.Table fault) ended = ended ≡ says status.TableRefused (table_line fault)
IsSaidWithout (reasons.Page rule at) ended = ended ≡ says status.PageRefused (refused_line rule at)
IsSaidWithout (reasons.Json fault) ended = ended ≡ says status.JsonRefused (json_line fault)
IsSaidWithout reasons.Store ended = ⊥
IsSaidWithout reasons.OutOfMemory ended = ⊥
