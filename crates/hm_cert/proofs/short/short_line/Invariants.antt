use Rattle.std.proofs.Common.{◌-◌, length}
use Rattle.hm_cert.proofs.ShortLines.{AreShort}
use Rattle.hm_cert.proofs.short.short_line.Given as goal

abbrev pub invariant-loop-len : goal.invariant-loop-len
invariant-loop-len l = AreShort l.text l.at

abbrev pub decreases-loop-len : goal.decreases-loop-len
decreases-loop-len l = length l.text - l.at
