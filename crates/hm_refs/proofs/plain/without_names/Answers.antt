use Rattle.std.proofs.Common.{refl}
use Rattle.hm_refs.proofs.FlagLaws.{plain_ascii, listed_none, listed_more, listed_all}
use Rattle.hm_refs.proofs.plain.without_names.Goals as goal

pub loop-byte-init : goal.loop-byte-init
loop-byte-init c = listed_none

pub bounds-flags-byte : goal.bounds-flags-byte
bounds-flags-byte c = plain_ascii c.loop-byte.byte-index c.loop-byte-test.true

pub loop-byte-preserved : goal.loop-byte-preserved
loop-byte-preserved c = listed_more c.loop-byte.byte-index _ c.loop-byte.flags c.loop-byte-test.true refl c.loop-byte.invariant

pub returns : goal.returns
returns c = listed_all c.loop-byte.byte-index c.loop-byte.flags c.loop-byte-test.false c.loop-byte.invariant
