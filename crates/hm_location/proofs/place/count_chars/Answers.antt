use Rattle.std.proofs.Common.{arith}
use Rattle.std.proofs.lemmas.List.{at_drop_all}
use Rattle.std.specs.Fmt.{char_count}
use Rattle.hm_location.proofs.LineLaws.{no_chars}
use Rattle.hm_location.proofs.place.count_chars.Goals as goal

pub returns-clause-count : goal.returns-clause-count
returns-clause-count c =
    let rest = at_drop_all char_count c.args.bytes.now c.loop-byte.byte-index (omega (arith, c.loop-byte-test.false)) in
    omega (arith, c.loop-byte.invariant.1, rest, no_chars)
