use Rattle.std.proofs.Common.{◌<◌, All, length}
use Rattle.hm_html_cases.proofs.compare.Given as goal

abbrev pub invariant-loop-number : goal.invariant-loop-number
invariant-loop-number l = All (λ i. i < length l.ready.entries) l.ours × All (λ i. i < length l.read.entries) l.theirs
