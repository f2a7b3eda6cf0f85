use Rattle.hm_cert.specs.Places.{IsRowPlace}
use Rattle.hm_writing_tests.proofs.cert.has_rows.Given as goal

abbrev pub invariant-loop-wanted : goal.invariant-loop-wanted
invariant-loop-wanted l = IsRowPlace l.read l.place
