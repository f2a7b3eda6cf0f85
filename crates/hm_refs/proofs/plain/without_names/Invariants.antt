use Rattle.hm_refs.proofs.FlagLaws.{AreListed}
use Rattle.hm_refs.proofs.plain.without_names.Given as goal

abbrev pub invariant-loop-byte : goal.invariant-loop-byte
invariant-loop-byte l = AreListed l.byte-index l.flags
