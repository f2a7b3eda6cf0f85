use Rattle.std.proofs.Common.{◌≡◌, drop}
use Rattle.hm_base.specs.Bytes.{strip_word}
use Rattle.hm_scan.proofs.search.after_word.Given as goal

abbrev pub invariant-loop-i : goal.invariant-loop-i
invariant-loop-i l = strip_word (drop l.i l.word) (drop l.i l.bytes) ≡ strip_word l.word l.bytes
