-- The number of each status.
use Rattle.std.specs.Prelude.{ℕ}
use Rattle.hm_minify.specs.declared.status.Status.{Status}
use Rattle.hm_minify.specs.declared.status.Status.TheVariants.{Done, No, Usage, PageRefused, TableRefused, StoreFault, SinkFault, OutOfMemory, JsonRefused}

abbrev pub code_of : Status → ℕ
code_of Done = 0
code_of No = 1
code_of Usage = 2
code_of PageRefused = 3
code_of TableRefused = 4
code_of StoreFault = 5
code_of SinkFault = 6
code_of OutOfMemory = 7
code_of JsonRefused = 8
